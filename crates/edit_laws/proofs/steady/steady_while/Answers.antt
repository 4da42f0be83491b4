use Rattle.edit_laws.proofs.SteadyRuns.{steady_while}
use Rattle.edit_laws.proofs.steady.steady_while.Goals as goal

pub returns : goal.returns
returns c = λ _ n test body a h. steady_while n test body a h
