use Rattle.edit_laws.proofs.Swapping.{change_places}
use Rattle.edit_laws.proofs.moves.nodes_change_places.Goals as goal

pub returns : goal.returns
returns c = λ n c s is inside off bare plain. change_places s is n c inside off bare plain
