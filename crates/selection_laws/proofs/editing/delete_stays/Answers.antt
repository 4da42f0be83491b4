use Rattle.std.specs.Prelude.{true}
use Rattle.text_deletion.specs.Delete.{delete}
use Rattle.edit_laws.proofs.HostRuns.{in_host}
use Rattle.selection_laws.proofs.StayingBack.{stays_delete}
use Rattle.selection_laws.proofs.editing.delete_stays.Goals as goal

pub returns : goal.returns
returns c = in_host true delete (λ outer h. stays_delete outer h)
