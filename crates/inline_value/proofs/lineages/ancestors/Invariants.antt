use Rattle.std.proofs.Common.{◌≡◌, ◌++◌}
use Rattle.edit_model.specs.Gives.{label_of, labels_of}
use Rattle.wrap_split.specs.EditDoc.Held.{IfHeld, EachHeld}
use Rattle.inline_value.specs.Forcing.{ancestors}
use Rattle.inline_value.proofs.Above.{from, height}
use Rattle.inline_value.proofs.lineages.ancestors.Given as goal

-- what is listed, and what is still to be listed
abbrev pub invariant-loop-at : goal.invariant-loop-at
invariant-loop-at l = record {
  held : IfHeld l.doc l.at;
  each : EachHeld l.doc l.list.items;
  listed : labels_of l.list.items ++ from l.doc.state.trees (label_of l.at) ≡ ancestors l.doc.state.trees l.fn.node.label;
}

abbrev pub decreases-loop-at : goal.decreases-loop-at
decreases-loop-at l = height l.doc.state.trees (label_of l.at)
