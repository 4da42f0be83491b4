use Rattle.forest_changes.proofs.ManyLeaves.{back_beside, forth_beside, pruned-with_leaf, Prunes-with_leaf}
use Rattle.forest_changes.proofs.stay_beside.Goals as goal

pub returns : goal.returns
returns c = record { back = back_beside; forth = forth_beside; pruned = λ k l c f out. pruned-with_leaf k l c out f; prunes = λ k l c f out low. Prunes-with_leaf k l c out f low }
