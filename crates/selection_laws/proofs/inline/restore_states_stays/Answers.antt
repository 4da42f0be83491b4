use Rattle.inline_commands.specs.RestoringStates.{restore_states}
use Rattle.edit_laws.proofs.HostRuns.{in_host}
use Rattle.selection_laws.proofs.StayingValues.{stays_restore_states}
use Rattle.selection_laws.proofs.inline.restore_states_stays.Goals as goal

pub returns : goal.returns
returns c = λ scratched list. in_host scratched (restore_states list) (λ outer h. stays_restore_states outer h scratched list)
