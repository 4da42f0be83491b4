use Rattle.command_laws.proofs.TogglingRuns.{order_preserving_apply_value}
use Rattle.command_laws.proofs.inline.apply_value_keeps_order.Goals as goal

pub returns : goal.returns
returns c = λ command v. order_preserving_apply_value command v
