use Rattle.insert_objects.specs.Image.{insert_image}
use Rattle.edit_laws.proofs.HostRuns.{in_host}
use Rattle.selection_laws.proofs.StayingObjects.{stays_insert_image}
use Rattle.selection_laws.proofs.editing.insert_image_stays.Goals as goal

pub returns : goal.returns
returns c = λ scratched value. in_host scratched (insert_image value) (λ outer h. stays_insert_image outer h scratched value)
