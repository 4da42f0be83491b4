use Rattle.command_laws.proofs.ListToggleRuns.{steady_toggle_lists}
use Rattle.command_laws.proofs.list_toggles.toggle_lists_is_steady.Goals as goal

pub returns : goal.returns
returns c = λ kind. steady_toggle_lists kind
