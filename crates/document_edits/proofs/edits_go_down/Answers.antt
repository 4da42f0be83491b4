use Rattle.document_edits.proofs.Pruned.{told-pruned, told_all-pruned}
use Rattle.document_edits.proofs.Undoing.{told_back-pruned}
use Rattle.document_edits.proofs.edits_go_down.Goals as goal

pub returns : goal.returns
returns c = record { change = told-pruned; changes = told_all-pruned; back = told_back-pruned }
