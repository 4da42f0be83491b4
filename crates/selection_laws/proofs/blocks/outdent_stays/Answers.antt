use Rattle.list_indent.specs.Commands.{outdent}
use Rattle.edit_laws.proofs.HostRuns.{host_calm}
use Rattle.selection_laws.proofs.CalmIndents.{calm_outdent}
use Rattle.selection_laws.proofs.blocks.outdent_stays.Goals as goal

pub returns : goal.returns
returns c = λ scratched. host_calm scratched outdent calm_outdent
