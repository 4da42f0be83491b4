use Rattle.std.proofs.Common.{◌≡◌, true}
use Rattle.edit_model.specs.Confined.{is_editable_for}
use Rattle.inline_value.specs.EditDoc.Held.{Holds}
use Rattle.inline_value.specs.WrapSplit.Walks.{walk, turn_bound}
use Rattle.text_insertion.specs.Containers.{up_to_entry}
use Rattle.text_insertion.proofs.containers.nearest_entry.Given as goal

-- the rest of the walk ends where the whole ends, and after a turn the node is editable
abbrev pub invariant-loop-turns : goal.invariant-loop-turns
invariant-loop-turns l =
    (walk (up_to_entry l.doc.state) l.turns l.at.label ≡ walk (up_to_entry l.doc.state) (turn_bound l.doc.state) l.fn.node.label)
    × Holds l.doc l.at
    × (l.editable ≡ true → is_editable_for l.doc.state l.at.label ≡ true)

abbrev pub decreases-loop-turns : goal.decreases-loop-turns
decreases-loop-turns l = l.turns
