use Rattle.edit_laws.proofs.SteadyRuns.{steady_look}
use Rattle.edit_laws.proofs.steady.steady_looks.Goals as goal

pub returns : goal.returns
returns c = λ _ k h. steady_look k h
