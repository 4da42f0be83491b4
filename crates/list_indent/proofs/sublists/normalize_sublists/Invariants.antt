use Rattle.std.proofs.Common.{◌≡◌, None}
use Rattle.edit_model.specs.Gives.{label_of}
use Rattle.edit_model.specs.Run.{final, while_at_most}
use Rattle.inline_value.specs.EditDoc.Held.{IfHeld, Keeps}
use Rattle.inline_value.specs.WrapSplit.Walks.{turn_bound}
use Rattle.list_indent.specs.Sublists.{has_sublist, part_last}
use Rattle.list_indent.proofs.sublists.normalize_sublists.Given as goal

-- the rest of the turns ends where the whole ends
abbrev pub invariant-loop-turns : goal.invariant-loop-turns
invariant-loop-turns l =
    (final (while_at_most l.turns (has_sublist l.node.label) (part_last l.node.label) (label_of l.follower)) l.doc.state
    ≡ final (while_at_most (turn_bound l.initial.doc.state) (has_sublist l.node.label) (part_last l.node.label) None) l.initial.doc.state)
    × (IfHeld l.doc l.follower × Keeps l.initial.doc l.doc)

abbrev pub decreases-loop-turns : goal.decreases-loop-turns
decreases-loop-turns l = l.turns
