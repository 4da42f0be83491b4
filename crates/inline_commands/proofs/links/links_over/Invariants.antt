use Rattle.std.proofs.Common.{◌≡◌, ◌++◌, drop}
use Rattle.edit_model.specs.Gives.{labels_of}
use Rattle.inline_value.specs.EditDoc.Held.{Holds, EachHeld}
use Rattle.inline_commands.specs.Merging.{links_over}
use Rattle.inline_commands.proofs.links.links_over.Given as goal

-- the links so far are listed, and the others are still to be listed
abbrev pub invariant-loop-node : goal.invariant-loop-node
invariant-loop-node l = record {
  before : Holds l.doc l.last;
  each : EachHeld l.doc l.links.items;
  listed : labels_of l.links.items ++ links_over l.doc.state.trees l.last.label (labels_of (drop l.node-index l.list)) ≡ links_over l.doc.state.trees 0 (labels_of l.list);
}
