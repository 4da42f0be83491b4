use Rattle.caret_laws.proofs.SingleTails.{nothing_singly, nothing_extracted}
use Rattle.caret_laws.proofs.tails.tails_of_nothing.Goals as goal

pub returns : goal.returns
returns c = λ s from end target is out. (nothing_extracted s is from end target out, nothing_singly s is from end target out)
