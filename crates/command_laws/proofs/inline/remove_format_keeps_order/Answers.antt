use Rattle.command_laws.proofs.FormatRuns.{order_preserving_remove_format}
use Rattle.command_laws.proofs.inline.remove_format_keeps_order.Goals as goal

pub returns : goal.returns
returns c = order_preserving_remove_format
