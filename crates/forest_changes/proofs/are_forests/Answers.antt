use Rattle.forest_changes.proofs.Twice.{forest_of, IsForest-applied, count_of-applied}
use Rattle.forest_changes.proofs.are_forests.Goals as goal

pub returns : goal.returns
returns c = record { arena = forest_of; change = IsForest-applied; labels = count_of-applied }
