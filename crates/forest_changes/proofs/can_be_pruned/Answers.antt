use Rattle.forest_changes.proofs.DownChange.{prunes_whole, prunes_roots, pruned_tree}
use Rattle.forest_changes.proofs.can_be_pruned.Goals as goal

pub returns : goal.returns
returns c = record { whole = prunes_whole; roots = prunes_roots; tree = pruned_tree }
