use Rattle.command_laws.proofs.BlockRuns.{steady_format_block}
use Rattle.command_laws.proofs.blocks.format_block_is_steady.Goals as goal

pub returns : goal.returns
returns c = λ v. steady_format_block v
