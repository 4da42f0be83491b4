use Rattle.std.proofs.Common.{◌≡◌, ◌++◌, drop}
use Rattle.std.specs.List.{filter}
use Rattle.edit_model.specs.Gives.{labels_of}
use Rattle.inline_value.specs.EditDoc.Held.{EachHeld}
use Rattle.inline_commands.specs.Unlink.{is_link}
use Rattle.inline_commands.proofs.links.links_among.Given as goal

-- the links so far are listed, and the others are still to be listed
abbrev pub invariant-loop-node : goal.invariant-loop-node
invariant-loop-node l =
    (labels_of l.kept.items ++ filter (is_link l.doc.state.trees) (labels_of (drop l.node-index l.list))
    ≡ filter (is_link l.doc.state.trees) (labels_of l.list))
    × EachHeld l.doc l.kept.items
