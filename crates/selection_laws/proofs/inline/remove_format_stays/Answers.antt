use Rattle.inline_commands.specs.RemovingFormat.{remove_format}
use Rattle.edit_laws.proofs.HostRuns.{in_host}
use Rattle.selection_laws.proofs.StayingValues.{stays_remove_format}
use Rattle.selection_laws.proofs.inline.remove_format_stays.Goals as goal

pub returns : goal.returns
returns c = λ scratched. in_host scratched remove_format (λ outer h. stays_remove_format outer h scratched)
