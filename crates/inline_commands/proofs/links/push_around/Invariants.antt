use Rattle.std.proofs.Common.{◌≡◌, ◌++◌, ◌-◌, ◌≤◌, drop, length}
use Rattle.edit_model.specs.Gives.{labels_of}
use Rattle.inline_value.specs.EditDoc.Held.{EachHeld}
use Rattle.inline_commands.specs.Merging.{around, beyond}
use Rattle.inline_commands.proofs.links.push_around.Given as goal

-- what is appended so far, and what is still to be appended
abbrev pub invariant-loop-at : goal.invariant-loop-at
invariant-loop-at l = record {
  within : l.at ≤ length l.above;
  each : EachHeld l.doc l.list.items;
  listed : labels_of l.list.items ++ around l.doc.state.trees (labels_of (drop l.at l.above)) l.node.label ≡ labels_of l.initial.list.items ++ around l.doc.state.trees (labels_of (drop l.from l.above)) l.node.label;
  left : beyond l.doc.state.trees (labels_of (drop l.at l.above)) l.node.label ≡ beyond l.doc.state.trees (labels_of (drop l.from l.above)) l.node.label;
}

abbrev pub decreases-loop-at : goal.decreases-loop-at
decreases-loop-at l = length l.above - l.at
