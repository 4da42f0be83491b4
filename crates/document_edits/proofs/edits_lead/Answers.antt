use Rattle.document_edits.proofs.Following.{told_follows, told_all_follows}
use Rattle.document_edits.proofs.Undoing.{told_back_follows}
use Rattle.document_edits.proofs.edits_lead.Goals as goal

pub returns : goal.returns
returns c = record { change = told_follows; changes = told_all_follows; back = told_back_follows }
