use Rattle.edit_laws.proofs.MoveLaws.{go_into_next}
use Rattle.edit_laws.proofs.moves.next_takes_in.Goals as goal

pub returns : goal.returns
returns c = λ n x s is next bare. go_into_next s is n x next bare
