use Rattle.edit_laws.proofs.SteadyRuns.{steady_given}
use Rattle.edit_laws.proofs.steady.steady_given.Goals as goal

pub returns : goal.returns
returns c = λ _ o n f h g. steady_given o n f h g
