use Rattle.edit_laws.proofs.QuietActions.{quiet_keeps}
use Rattle.edit_laws.proofs.laws.quiet_actions_keep.Goals as goal

pub returns : goal.returns
returns c = λ a quiet s is. quiet_keeps a quiet s is
