use Rattle.text_insertion.specs.Paragraph.{insert_paragraph}
use Rattle.edit_laws.proofs.HostRuns.{in_host}
use Rattle.selection_laws.proofs.StayingLines.{stays_insert_paragraph}
use Rattle.selection_laws.proofs.editing.insert_paragraph_stays.Goals as goal

pub returns : goal.returns
returns c = λ scratched. in_host scratched insert_paragraph (λ outer h. stays_insert_paragraph outer h scratched)
