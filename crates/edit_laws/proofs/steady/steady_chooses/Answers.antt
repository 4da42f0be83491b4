use Rattle.edit_laws.proofs.SteadyRuns.{steady_if}
use Rattle.edit_laws.proofs.steady.steady_chooses.Goals as goal

pub returns : goal.returns
returns c = λ _ b m n h g. steady_if b m n h g
