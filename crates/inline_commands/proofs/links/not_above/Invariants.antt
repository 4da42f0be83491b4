use Rattle.std.proofs.Common.{◌≡◌, ◌++◌, drop, not}
use Rattle.std.specs.List.{filter}
use Rattle.edit_model.specs.PointOrder.PointOrder.{is_ancestor}
use Rattle.edit_model.specs.Gives.{labels_of}
use Rattle.inline_value.specs.EditDoc.Held.{EachHeld}
use Rattle.inline_commands.proofs.links.not_above.Given as goal

-- the nodes so far are listed, and the others are still to be listed
abbrev pub invariant-loop-node : goal.invariant-loop-node
invariant-loop-node l =
    (labels_of l.kept.items ++ filter (λ k. not (is_ancestor l.doc.state.trees k l.below.label)) (labels_of (drop l.node-index l.list))
    ≡ filter (λ k. not (is_ancestor l.doc.state.trees k l.below.label)) (labels_of l.list))
    × EachHeld l.doc l.kept.items
