use Rattle.edit_model.proofs.TailPossible.{tail_possible}
use Rattle.edit_model.proofs.laws.tails_are_possible.Goals as goal

pub returns : goal.returns
returns c = λ s from end target is may. tail_possible s is from end target may
