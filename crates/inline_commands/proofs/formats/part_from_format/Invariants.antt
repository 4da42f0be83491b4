use Rattle.std.proofs.Common.{◌≡◌}
use Rattle.edit_model.specs.Run.{final, while_at_most}
use Rattle.inline_value.specs.EditDoc.Held.{Keeps}
use Rattle.inline_value.specs.WrapSplit.Split.{split_around}
use Rattle.inline_value.specs.WrapSplit.Walks.{turn_bound}
use Rattle.inline_commands.specs.RemovingFormat.{is_formatted}
use Rattle.inline_commands.proofs.formats.part_from_format.Given as goal

-- the turns that are left end where all of them end
abbrev pub invariant-loop-turns : goal.invariant-loop-turns
invariant-loop-turns l =
    (final (while_at_most l.turns is_formatted split_around l.node.label) l.doc.state
    ≡ final (while_at_most (turn_bound l.initial.doc.state) is_formatted split_around l.node.label) l.initial.doc.state)
    × Keeps l.initial.doc l.doc

abbrev pub decreases-loop-turns : goal.decreases-loop-turns
decreases-loop-turns l = l.turns
