use Rattle.std.proofs.Common.{◌≡◌, ◌≤◌, length, take, reverse}
use Rattle.edit_model.specs.Gives.{labels_of}
use Rattle.edit_model.specs.Run.{final, for_each}
use Rattle.edit_doc.specs.Held.{Keeps}
use Rattle.edit_model.specs.Moves.{move_after}
use Rattle.edit_actions.proofs.moves.move_all_after.Given as goal

-- what is left to do ends where the whole ends
abbrev pub invariant-loop-left : goal.invariant-loop-left
invariant-loop-left l =
    (l.left ≤ length l.list)
    × (final (for_each (reverse (labels_of (take l.left l.list))) (move_after l.other.label)) l.doc.state
    ≡ final (for_each (reverse (labels_of l.list)) (move_after l.other.label)) l.initial.doc.state)
    × Keeps l.initial.doc l.doc

abbrev pub decreases-loop-left : goal.decreases-loop-left
decreases-loop-left l = l.left
