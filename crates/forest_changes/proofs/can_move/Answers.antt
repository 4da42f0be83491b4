use Rattle.forest_changes.proofs.Twice.{can_shift}
use Rattle.forest_changes.proofs.can_move.Goals as goal

pub returns : goal.returns
returns c = can_shift
