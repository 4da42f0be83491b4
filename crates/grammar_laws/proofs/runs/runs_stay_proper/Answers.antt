use Rattle.grammar_laws.proofs.Keeping.{proper_along}
use Rattle.grammar_laws.proofs.runs.runs_stay_proper.Goals as goal

pub returns : goal.returns
returns c = λ s t r is proper h. proper_along r is proper h
