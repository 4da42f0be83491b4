use Rattle.std.proofs.Common.{◌≡◌, ◌≤◌, length, drop}
use Rattle.edit_model.specs.Gives.{labels_of}
use Rattle.edit_model.specs.Run.{final, while_at_most}
use Rattle.inline_value.specs.EditDoc.Held.{Keeps}
use Rattle.inline_value.specs.WrapSplit.Walks.{turn_bound}
use Rattle.block_commands.specs.Series.{has_members}
use Rattle.block_commands.proofs.turns.in_turns.Given as goal

-- what is left to do ends where the whole ends
abbrev pub invariant-loop-left : goal.invariant-loop-left
invariant-loop-left g l =
    (final (while_at_most l.left has_members (g.T.Turn.run l.turn) (labels_of (drop l.at l.list))) l.doc.state
    ≡ final (while_at_most (turn_bound l.initial.doc.state) has_members (g.T.Turn.run l.turn) (labels_of l.list)) l.initial.doc.state)
    × (l.at ≤ length l.list)
    × Keeps l.initial.doc l.doc

abbrev pub decreases-loop-left : goal.decreases-loop-left
decreases-loop-left g l = l.left
