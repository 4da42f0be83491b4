use Rattle.edit_model.proofs.TailEnds.{tails_end}
use Rattle.edit_model.proofs.laws.tails_end.Goals as goal

pub returns : goal.returns
returns c = λ s from end target fuel is may enough. tails_end s from end target fuel is may enough
