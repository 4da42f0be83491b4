use Rattle.edit_laws.proofs.Unwrapping.{unwrap_keeps}
use Rattle.edit_laws.proofs.compositions.unwraps_keep.Goals as goal

pub returns : goal.returns
returns c = λ e s is bare. unwrap_keeps e s is bare
