use Rattle.block_commands.specs.FormatBlock.{format_block}
use Rattle.edit_laws.proofs.HostRuns.{host_calm}
use Rattle.selection_laws.proofs.CalmBlocks.{calm_format_block}
use Rattle.selection_laws.proofs.blocks.format_block_stays.Goals as goal

pub returns : goal.returns
returns c = λ scratched v. host_calm scratched (format_block v) (calm_format_block v)
