use Rattle.std.proofs.Common.{◌≡◌}
use Rattle.edit_model.specs.Run.{final, while_at_most}
use Rattle.wrap_split.specs.EditDoc.Held.{Keeps}
use Rattle.wrap_split.specs.Split.{split_around}
use Rattle.wrap_split.specs.Walks.{turn_bound}
use Rattle.inline_value.specs.Ancestors.{is_misplaced}
use Rattle.inline_value.proofs.ancestors.lift_out.Given as goal

-- what is left to do ends where the whole ends
abbrev pub invariant-loop-turns : goal.invariant-loop-turns
invariant-loop-turns l =
    (final (while_at_most l.turns is_misplaced split_around l.node.label) l.doc.state
    ≡ final (while_at_most (turn_bound l.initial.doc.state) is_misplaced split_around l.node.label) l.initial.doc.state)
    × Keeps l.initial.doc l.doc

abbrev pub decreases-loop-turns : goal.decreases-loop-turns
decreases-loop-turns l = l.turns
