use Rattle.std.proofs.Common.{◌≡◌, ◌++◌, ◌≤◌, drop, length}
use Rattle.edit_model.specs.Gives.{labels_of}
use Rattle.inline_value.specs.EditDoc.Held.{EachHeld}
use Rattle.inline_commands.specs.Merging.{merged}
use Rattle.inline_commands.proofs.links.push_merged.Given as goal

-- what is appended so far, and what is still to be appended
abbrev pub invariant-loop-node : goal.invariant-loop-node
invariant-loop-node l = record {
  within : l.at ≤ length l.above;
  each : EachHeld l.doc l.list.items;
  listed : labels_of l.list.items ++ merged l.doc.state.trees (labels_of (drop l.at l.above)) (labels_of (drop l.node-index l.inside)) ≡ labels_of l.initial.list.items ++ merged l.doc.state.trees (labels_of l.above) (labels_of l.inside);
}
