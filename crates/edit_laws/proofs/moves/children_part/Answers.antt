use Rattle.edit_laws.proofs.Fronts.{part}
use Rattle.edit_laws.proofs.moves.children_part.Goals as goal

pub returns : goal.returns
returns c = λ front list rest o x s is next made parent kids bare. part s is front list rest o x next made parent kids bare
