use Rattle.command_laws.proofs.TogglingRuns.{order_preserving_toggle_script}
use Rattle.command_laws.proofs.inline.toggle_script_keeps_order.Goals as goal

pub returns : goal.returns
returns c = λ command. order_preserving_toggle_script command
