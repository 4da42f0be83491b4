use Rattle.edit_laws.proofs.MoveLaws.{go_after}
use Rattle.edit_laws.proofs.moves.last_children_go_after.Goals as goal

pub returns : goal.returns
returns c = λ front list o s is kids. go_after s is front list o kids
