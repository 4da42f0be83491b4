use Rattle.std.proofs.Common.{◌≡◌, ◌++◌}
use Rattle.edit_model.specs.Gives.{labels_of}
use Rattle.inline_value.specs.EditDoc.Held.{Holds, EachHeld}
use Rattle.inline_value.specs.WrapSplit.Walks.{turn_bound}
use Rattle.text_insertion.specs.Containers.{contents_after}
use Rattle.text_insertion.proofs.lines.with_contents_after.Given as goal

-- the rest gives what the whole gives
abbrev pub invariant-loop-turns : goal.invariant-loop-turns
invariant-loop-turns l =
    (labels_of l.list.items ++ contents_after l.doc.state l.turns l.at.label
    ≡ labels_of l.initial.list.items ++ contents_after l.doc.state (turn_bound l.doc.state) l.initial.at.label)
    × (EachHeld l.doc l.list.items × Holds l.doc l.at)

abbrev pub decreases-loop-turns : goal.decreases-loop-turns
decreases-loop-turns l = l.turns
