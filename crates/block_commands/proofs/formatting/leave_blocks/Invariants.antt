use Rattle.std.proofs.Common.{◌≡◌}
use Rattle.edit_model.specs.Run.{final, while_at_most}
use Rattle.inline_value.specs.EditDoc.Held.{Keeps}
use Rattle.inline_value.specs.WrapSplit.Split.{split_around}
use Rattle.inline_value.specs.WrapSplit.Walks.{turn_bound}
use Rattle.block_commands.specs.FormatBlock.{has_outer_block}
use Rattle.block_commands.proofs.formatting.leave_blocks.Given as goal

-- what is left to do ends where the whole ends
abbrev pub invariant-loop-left : goal.invariant-loop-left
invariant-loop-left l =
    (final (while_at_most l.left has_outer_block split_around l.node.label) l.doc.state
    ≡ final (while_at_most (turn_bound l.initial.doc.state) has_outer_block split_around l.node.label) l.initial.doc.state)
    × Keeps l.initial.doc l.doc

abbrev pub decreases-loop-left : goal.decreases-loop-left
decreases-loop-left l = l.left
