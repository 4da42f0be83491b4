use Rattle.edit_laws.proofs.MoveLaws.{go_nowhere}
use Rattle.edit_laws.proofs.moves.moves_out_are_left_out.Goals as goal

pub returns : goal.returns
returns c = λ list x s is out. go_nowhere s is list x out
