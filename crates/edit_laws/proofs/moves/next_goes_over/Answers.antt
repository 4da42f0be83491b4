use Rattle.edit_laws.proofs.MoveLaws.{go_past}
use Rattle.edit_laws.proofs.moves.next_goes_over.Goals as goal

pub returns : goal.returns
returns c = λ x n s is next bare. go_past s is x n next bare
