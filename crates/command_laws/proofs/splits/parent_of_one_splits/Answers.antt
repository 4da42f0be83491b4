use Rattle.command_laws.proofs.Splitting.{order_preserving_split_one}
use Rattle.command_laws.proofs.splits.parent_of_one_splits.Goals as goal

pub returns : goal.returns
returns c = λ n. order_preserving_split_one n
