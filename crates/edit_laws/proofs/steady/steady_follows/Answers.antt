use Rattle.edit_laws.proofs.SteadyRuns.{steady_bind}
use Rattle.edit_laws.proofs.steady.steady_follows.Goals as goal

pub returns : goal.returns
returns c = λ _ m k h g. steady_bind m k h g
