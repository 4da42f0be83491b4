use Rattle.edit_laws.proofs.Fronts.{part_shut}
use Rattle.edit_laws.proofs.moves.children_stay.Goals as goal

pub returns : goal.returns
returns c = λ front list rest o x q s is up shut out kids. part_shut s is front list rest o x q up shut out kids
