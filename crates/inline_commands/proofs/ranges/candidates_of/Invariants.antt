use Rattle.std.proofs.Common.{◌≡◌, ◌++◌, drop}
use Rattle.std.specs.List.{filter}
use Rattle.edit_model.specs.Gives.{labels_of}
use Rattle.inline_value.specs.EditDoc.Held.{EachHeld}
use Rattle.inline_commands.specs.RemovingFormat.{is_candidate}
use Rattle.inline_commands.proofs.ranges.candidates_of.Given as goal

-- the nodes so far are listed, and the others are still to be listed
abbrev pub invariant-loop-node : goal.invariant-loop-node
invariant-loop-node l =
    (labels_of l.kept.items ++ filter (is_candidate l.doc.state) (labels_of (drop l.node-index l.list))
    ≡ filter (is_candidate l.doc.state) (labels_of l.list))
    × EachHeld l.doc l.kept.items
