use Rattle.std.proofs.Common.{◌≡◌, ◌≤◌, length, take, reverse}
use Rattle.edit_model.specs.Gives.{labels_of}
use Rattle.edit_model.specs.Run.{final}
use Rattle.inline_value.specs.EditDoc.Held.{Keeps}
use Rattle.list_indent.specs.Outdenting.{part_levels}
use Rattle.list_indent.proofs.levels.part_levels.Given as goal

-- what is left to do ends where the whole ends
abbrev pub invariant-loop-left : goal.invariant-loop-left
invariant-loop-left l =
    (l.left ≤ length l.way)
    × ((final (part_levels l.node.label (reverse (labels_of (take l.left l.way)))) l.doc.state
    ≡ final (part_levels l.node.label (reverse (labels_of l.way))) l.initial.doc.state)
    × Keeps l.initial.doc l.doc)

abbrev pub decreases-loop-left : goal.decreases-loop-left
decreases-loop-left l = l.left
