use Rattle.command_laws.proofs.LinkingRuns.{order_preserving_unlink}
use Rattle.command_laws.proofs.inline.unlink_keeps_order.Goals as goal

pub returns : goal.returns
returns c = order_preserving_unlink
