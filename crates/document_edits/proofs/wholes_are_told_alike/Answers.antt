use Rattle.document_edits.proofs.Wholes.{told_whole, told_all_wholes, told_back_wholes}
use Rattle.document_edits.proofs.wholes_are_told_alike.Goals as goal

pub returns : goal.returns
returns c = record { change = told_whole; changes = told_all_wholes; back = told_back_wholes }
