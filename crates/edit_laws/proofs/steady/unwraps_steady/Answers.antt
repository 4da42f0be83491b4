use Rattle.edit_laws.proofs.Unwrapping.{steady_unwrap}
use Rattle.edit_laws.proofs.steady.unwraps_steady.Goals as goal

pub returns : goal.returns
returns c = λ e. steady_unwrap e
