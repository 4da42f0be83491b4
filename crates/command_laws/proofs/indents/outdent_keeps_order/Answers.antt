use Rattle.command_laws.proofs.IndentRuns.{order_preserving_outdent}
use Rattle.command_laws.proofs.indents.outdent_keeps_order.Goals as goal

pub returns : goal.returns
returns c = order_preserving_outdent
