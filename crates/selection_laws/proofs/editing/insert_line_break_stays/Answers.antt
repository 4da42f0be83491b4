use Rattle.insert_objects.specs.LineBreak.{insert_line_break}
use Rattle.edit_laws.proofs.HostRuns.{in_host}
use Rattle.selection_laws.proofs.StayingObjects.{stays_insert_line_break}
use Rattle.selection_laws.proofs.editing.insert_line_break_stays.Goals as goal

pub returns : goal.returns
returns c = λ scratched. in_host scratched insert_line_break (λ outer h. stays_insert_line_break outer h scratched)
