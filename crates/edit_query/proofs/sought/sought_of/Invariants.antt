use Rattle.std.proofs.Common.{◌≡◌, ◌++◌, drop}
use Rattle.std.specs.List.{filter}
use Rattle.edit_model.specs.Gives.{labels_of}
use Rattle.edit_actions.specs.EditDoc.Held.{EachHeld}
use Rattle.edit_query.specs.Sought.{is_sought}
use Rattle.edit_query.proofs.sought.sought_of.Given as goal

-- those sought so far are found, and those of the others are still to be found
abbrev pub invariant-loop-node : goal.invariant-loop-node
invariant-loop-node l =
    (labels_of l.found.items ++ filter (is_sought l.sought l.doc.state.trees l.host.label) (labels_of (drop l.node-index l.list))
    ≡ filter (is_sought l.sought l.doc.state.trees l.host.label) (labels_of l.list))
    × EachHeld l.doc l.found.items
