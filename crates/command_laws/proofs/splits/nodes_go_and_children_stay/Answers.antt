use Rattle.command_laws.proofs.Splitting.{order_preserving_unwrap}
use Rattle.command_laws.proofs.splits.nodes_go_and_children_stay.Goals as goal

pub returns : goal.returns
returns c = λ n. order_preserving_unwrap n
