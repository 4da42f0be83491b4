use Rattle.edit_model.proofs.ValidRuns.{valid_along}
use Rattle.edit_model.proofs.laws.valid_stays.Goals as goal

pub returns : goal.returns
returns c = λ s t r is. valid_along r is
