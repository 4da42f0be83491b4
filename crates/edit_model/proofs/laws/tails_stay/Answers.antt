use Rattle.edit_model.proofs.TailDocument.{tail_stays}
use Rattle.edit_model.proofs.laws.tails_stay.Goals as goal

pub returns : goal.returns
returns c = λ s from end target l is inside. tail_stays s from end target l is inside
