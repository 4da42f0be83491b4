use Rattle.command_laws.proofs.RestoringRuns.{order_preserving_restore_states}
use Rattle.command_laws.proofs.inline.restore_states_keeps_order.Goals as goal

pub returns : goal.returns
returns c = λ list. order_preserving_restore_states list
