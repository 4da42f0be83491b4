use Rattle.command_laws.proofs.BlockRuns.{order_preserving_justify}
use Rattle.command_laws.proofs.blocks.justify_keeps_order.Goals as goal

pub returns : goal.returns
returns c = λ v. order_preserving_justify v
