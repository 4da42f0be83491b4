use Rattle.inline_commands.specs.Toggling.{toggle_script}
use Rattle.edit_laws.proofs.HostRuns.{in_host}
use Rattle.selection_laws.proofs.StayingValues.{stays_toggle_script}
use Rattle.selection_laws.proofs.inline.toggle_script_stays.Goals as goal

pub returns : goal.returns
returns c = λ scratched c. in_host scratched (toggle_script c) (λ outer h. stays_toggle_script outer h scratched c)
