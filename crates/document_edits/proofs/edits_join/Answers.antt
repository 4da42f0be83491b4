use Rattle.document_edits.proofs.Joining.{told_all-join}
use Rattle.document_edits.proofs.edits_join.Goals as goal

pub returns : goal.returns
returns c = told_all-join
