use Rattle.edit_laws.proofs.MoveLaws.{go_in}
use Rattle.edit_laws.proofs.moves.next_siblings_go_in.Goals as goal

pub returns : goal.returns
returns c = λ before list after p q s is kids. go_in s is before list after p q kids
