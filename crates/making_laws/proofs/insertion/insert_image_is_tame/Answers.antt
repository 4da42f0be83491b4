use Rattle.making_laws.proofs.ObjectRuns.{tame_insert_image}
use Rattle.making_laws.proofs.insertion.insert_image_is_tame.Goals as goal

pub returns : goal.returns
returns c = λ x. tame_insert_image x
