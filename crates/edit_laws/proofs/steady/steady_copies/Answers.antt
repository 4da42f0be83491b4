use Rattle.edit_laws.proofs.SteadyRuns.{steady_copy}
use Rattle.edit_laws.proofs.steady.steady_copies.Goals as goal

pub returns : goal.returns
returns c = λ s e name is editable. steady_copy s e name is editable
