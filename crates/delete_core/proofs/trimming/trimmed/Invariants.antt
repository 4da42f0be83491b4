use Rattle.std.proofs.Common.{◌≡◌}
use Rattle.edit_model.specs.Run.{final, value, while_at_most}
use Rattle.inline_value.specs.EditDoc.Held.{Keeps}
use Rattle.inline_value.specs.WrapSplit.Walks.{turn_bound}
use Rattle.delete_core.specs.Whitespace.{trims, trim_turn}
use Rattle.delete_core.proofs.trimming.trimmed.Given as goal

-- what is left to do ends where the whole ends
abbrev pub invariant-loop-turns : goal.invariant-loop-turns
invariant-loop-turns l =
    (final (while_at_most l.turns (trims l.start) trim_turn l.scan) l.doc.state
    ≡ final (while_at_most (turn_bound l.initial.doc.state) (trims l.start) trim_turn l.initial.scan) l.initial.doc.state)
    × ((value (while_at_most l.turns (trims l.start) trim_turn l.scan) l.doc.state
    ≡ value (while_at_most (turn_bound l.initial.doc.state) (trims l.start) trim_turn l.initial.scan) l.initial.doc.state)
    × Keeps l.initial.doc l.doc)

abbrev pub decreases-loop-turns : goal.decreases-loop-turns
decreases-loop-turns l = l.turns
