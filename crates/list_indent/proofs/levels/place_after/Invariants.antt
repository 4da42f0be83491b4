use Rattle.std.proofs.Common.{◌≡◌, ◌≤◌, ◌-◌, length, drop}
use Rattle.edit_model.specs.Gives.{labels_of}
use Rattle.list_indent.specs.Outdenting.{rest_after}
use Rattle.list_indent.proofs.levels.place_after.Given as goal

-- the node is still to come
abbrev pub invariant-loop-at : goal.invariant-loop-at
invariant-loop-at l =
    (l.at ≤ length l.list)
    × (rest_after l.node.label (labels_of (drop l.at l.list)) ≡ rest_after l.node.label (labels_of l.list))

abbrev pub decreases-loop-at : goal.decreases-loop-at
decreases-loop-at l = length l.list - l.at
