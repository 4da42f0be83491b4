use Rattle.inline_commands.specs.Unlink.{unlink}
use Rattle.edit_laws.proofs.HostRuns.{host_calm}
use Rattle.selection_laws.proofs.CalmFormats.{calm_unlink}
use Rattle.selection_laws.proofs.inline.unlink_stays.Goals as goal

pub returns : goal.returns
returns c = λ scratched. host_calm scratched unlink calm_unlink
