use Rattle.insert_objects.specs.Rule.{insert_horizontal_rule}
use Rattle.edit_laws.proofs.HostRuns.{in_host}
use Rattle.selection_laws.proofs.StayingObjects.{stays_insert_horizontal_rule}
use Rattle.selection_laws.proofs.editing.insert_horizontal_rule_stays.Goals as goal

pub returns : goal.returns
returns c = λ scratched. in_host scratched insert_horizontal_rule (λ outer h. stays_insert_horizontal_rule outer h scratched)
