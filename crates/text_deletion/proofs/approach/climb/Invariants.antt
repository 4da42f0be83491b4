use Rattle.std.proofs.Common.{◌≡◌, ◌<◌}
use Rattle.edit_model.specs.DomModel.Forest.{count_of}
use Rattle.edit_model.specs.Run.{final, value, while_at_most}
use Rattle.inline_value.specs.EditDoc.Held.{Keeps}
use Rattle.inline_value.specs.WrapSplit.Walks.{turn_bound}
use Rattle.text_deletion.specs.Approach.{goes_on, climb_turn}
use Rattle.text_deletion.proofs.approach.climb.Given as goal

-- what is left to do ends where the whole ends, and the way stands at a node that is there
abbrev pub invariant-loop-turns : goal.invariant-loop-turns
invariant-loop-turns l =
    (final (while_at_most l.turns goes_on climb_turn l.way) l.doc.state
    ≡ final (while_at_most (turn_bound l.initial.doc.state) goes_on climb_turn l.initial.way) l.initial.doc.state)
    × ((value (while_at_most l.turns goes_on climb_turn l.way) l.doc.state
    ≡ value (while_at_most (turn_bound l.initial.doc.state) goes_on climb_turn l.initial.way) l.initial.doc.state)
    × (Keeps l.initial.doc l.doc × (0 < count_of l.doc.state.trees l.way.at.label)))

abbrev pub decreases-loop-turns : goal.decreases-loop-turns
decreases-loop-turns l = l.turns
