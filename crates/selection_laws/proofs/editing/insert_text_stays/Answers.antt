use Rattle.text_insertion.specs.Typing.{insert_text}
use Rattle.edit_laws.proofs.HostRuns.{in_host}
use Rattle.selection_laws.proofs.StayingLines.{stays_insert_text}
use Rattle.selection_laws.proofs.editing.insert_text_stays.Goals as goal

pub returns : goal.returns
returns c = λ scratched value. in_host scratched (insert_text value) (λ outer h. stays_insert_text outer h scratched value)
