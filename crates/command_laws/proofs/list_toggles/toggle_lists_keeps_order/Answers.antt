use Rattle.command_laws.proofs.ListToggleRuns.{order_preserving_toggle_lists}
use Rattle.command_laws.proofs.list_toggles.toggle_lists_keeps_order.Goals as goal

pub returns : goal.returns
returns c = λ kind. order_preserving_toggle_lists kind
