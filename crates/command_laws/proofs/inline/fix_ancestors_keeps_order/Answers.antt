use Rattle.command_laws.proofs.AncestorRuns.{order_preserving_fix_ancestors}
use Rattle.command_laws.proofs.inline.fix_ancestors_keeps_order.Goals as goal

pub returns : goal.returns
returns c = λ n. order_preserving_fix_ancestors n
