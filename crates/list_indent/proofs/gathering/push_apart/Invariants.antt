use Rattle.std.proofs.Common.{◌≡◌, ◌++◌, not, drop}
use Rattle.std.specs.Prelude.{filter}
use Rattle.edit_model.specs.PointOrder.PointOrder.{is_within}
use Rattle.edit_model.specs.Gives.{labels_of}
use Rattle.inline_value.specs.EditDoc.Held.{EachHeld}
use Rattle.list_indent.proofs.gathering.push_apart.Given as goal

-- those so far are listed, and the others are still to be listed
abbrev pub invariant-loop-item : goal.invariant-loop-item
invariant-loop-item l =
    (labels_of l.list.items ++ filter (λ k. not (is_within l.doc.state.trees k l.node.label)) (labels_of (drop l.item-index l.items))
    ≡ labels_of l.initial.list.items ++ filter (λ k. not (is_within l.doc.state.trees k l.node.label)) (labels_of l.items))
    × EachHeld l.doc l.list.items
