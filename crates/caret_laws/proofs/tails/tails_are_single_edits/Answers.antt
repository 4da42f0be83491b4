use Rattle.caret_laws.proofs.SingleTails.{tails_singly}
use Rattle.caret_laws.proofs.tails.tails_are_single_edits.Goals as goal

pub returns : goal.returns
returns c = λ s from end target is may. tails_singly s from end target is may
