use Rattle.edit_laws.proofs.MoveLaws.{go_front}
use Rattle.edit_laws.proofs.moves.previous_siblings_go_in.Goals as goal

pub returns : goal.returns
returns c = λ before list after p q s is kids bare. go_front s is before list after p q kids bare
