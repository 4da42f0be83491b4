use Rattle.list_indent.specs.Commands.{indent}
use Rattle.edit_laws.proofs.HostRuns.{host_calm}
use Rattle.selection_laws.proofs.CalmIndents.{calm_indent}
use Rattle.selection_laws.proofs.blocks.indent_stays.Goals as goal

pub returns : goal.returns
returns c = λ scratched. host_calm scratched indent calm_indent
