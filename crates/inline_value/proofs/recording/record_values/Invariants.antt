use Rattle.std.proofs.Common.{◌≡◌, ◌++◌, drop}
use Rattle.edit_model.specs.Gives.{labels_of}
use Rattle.wrap_split.specs.EditDoc.Held.{EachHeld}
use Rattle.inline_value.specs.Recording.{values_of}
use Rattle.inline_value.specs.Records.{entries_of, nodes_of}
use Rattle.inline_value.proofs.recording.record_values.Given as goal

-- the values of the nodes so far are listed, and those of the others are still to be listed
abbrev pub invariant-loop-node : goal.invariant-loop-node
invariant-loop-node l = record {
  values : entries_of l.items.items ++ values_of l.doc.state (labels_of (drop l.node-index l.list)) ≡ values_of l.doc.state (labels_of l.list);
  held : EachHeld l.doc (nodes_of l.items.items);
}
