use Rattle.command_laws.proofs.BlockRuns.{order_preserving_format_block}
use Rattle.command_laws.proofs.blocks.format_block_keeps_order.Goals as goal

pub returns : goal.returns
returns c = λ v. order_preserving_format_block v
