use Rattle.inline_commands.specs.Toggling.{toggle_style}
use Rattle.edit_laws.proofs.HostRuns.{in_host}
use Rattle.selection_laws.proofs.StayingValues.{stays_toggle_style}
use Rattle.selection_laws.proofs.inline.toggle_style_stays.Goals as goal

pub returns : goal.returns
returns c = λ scratched c. in_host scratched (toggle_style c) (λ outer h. stays_toggle_style outer h scratched c)
