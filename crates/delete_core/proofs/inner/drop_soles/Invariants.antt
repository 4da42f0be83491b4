use Rattle.std.proofs.Common.{◌≡◌, Some}
use Rattle.edit_model.specs.Gives.{label_of, labels_of}
use Rattle.edit_model.specs.Run.{final, value, while_at_most}
use Rattle.inline_value.specs.EditDoc.Held.{Holds, IfHeld, Keeps}
use Rattle.inline_value.specs.WrapSplit.Walks.{turn_bound}
use Rattle.delete_core.specs.Merging.{is_sole, drop_sole}
use Rattle.delete_core.proofs.inner.drop_soles.Given as goal

-- what is left to do ends where the whole ends
abbrev pub invariant-loop-turns : goal.invariant-loop-turns
invariant-loop-turns l =
    (final (while_at_most l.turns (is_sole l.outer.label) drop_sole l.at.label) l.doc.state
    ≡ final (while_at_most (turn_bound l.initial.doc.state) (is_sole l.outer.label) drop_sole l.initial.at.label) l.initial.doc.state)
    × ((value (while_at_most l.turns (is_sole l.outer.label) drop_sole l.at.label) l.doc.state
    ≡ value (while_at_most (turn_bound l.initial.doc.state) (is_sole l.outer.label) drop_sole l.initial.at.label) l.initial.doc.state)
    × (Holds l.doc l.at × Keeps l.initial.doc l.doc))

abbrev pub decreases-loop-turns : goal.decreases-loop-turns
decreases-loop-turns l = l.turns
