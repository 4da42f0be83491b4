use Rattle.delete_core.specs.Deletion.{delete_selection}
use Rattle.edit_laws.proofs.HostRuns.{in_host}
use Rattle.selection_laws.proofs.StayingErasing.{stays_delete_selection}
use Rattle.selection_laws.proofs.editing.delete_selection_stays.Goals as goal

pub returns : goal.returns
returns c = λ scratched m. in_host scratched (delete_selection m) (λ outer h. stays_delete_selection outer h scratched m)
