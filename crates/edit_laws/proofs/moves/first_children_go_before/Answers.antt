use Rattle.edit_laws.proofs.MoveLaws.{go_before}
use Rattle.edit_laws.proofs.moves.first_children_go_before.Goals as goal

pub returns : goal.returns
returns c = λ list rest o s is kids bare. go_before s is list rest o kids bare
