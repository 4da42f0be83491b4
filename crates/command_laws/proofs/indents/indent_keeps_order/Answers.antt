use Rattle.command_laws.proofs.IndentRuns.{order_preserving_indent}
use Rattle.command_laws.proofs.indents.indent_keeps_order.Goals as goal

pub returns : goal.returns
returns c = order_preserving_indent
