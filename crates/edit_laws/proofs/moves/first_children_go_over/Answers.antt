use Rattle.edit_laws.proofs.MoveLaws.{go_over}
use Rattle.edit_laws.proofs.moves.first_children_go_over.Goals as goal

pub returns : goal.returns
returns c = λ list rest o x s is next kids bare. go_over s is list rest o x next kids bare
