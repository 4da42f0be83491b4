use Rattle.command_laws.proofs.Splitting.{split_keeps}
use Rattle.command_laws.proofs.splits.parents_split.Goals as goal

pub returns : goal.returns
returns c = λ front list rest o s is kids. split_keeps front list rest o s is kids
