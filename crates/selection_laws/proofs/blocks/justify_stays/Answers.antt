use Rattle.block_commands.specs.Justify.{justify}
use Rattle.edit_laws.proofs.HostRuns.{host_calm}
use Rattle.selection_laws.proofs.CalmBlocks.{calm_justify}
use Rattle.selection_laws.proofs.blocks.justify_stays.Goals as goal

pub returns : goal.returns
returns c = λ scratched alignment. host_calm scratched (justify alignment) (calm_justify alignment)
