use Rattle.std.proofs.Common.{◌≡◌, true, ◌++◌, IfSome}
use Rattle.edit_model.specs.Confined.{is_inside}
use Rattle.edit_model.specs.Gives.{label_of, labels_of}
use Rattle.inline_value.specs.EditDoc.Held.{IfHeld, EachHeld}
use Rattle.inline_value.specs.Forcing.{ancestors}
use Rattle.list_indent.specs.Outdenting.{is_passed, climb}
use Rattle.inline_value.proofs.Above.{from, height}
use Rattle.list_indent.proofs.outdenting.way_by.Given as goal

-- the ancestors passed so far are listed, and the way goes on above them
abbrev pub invariant-loop-at : goal.invariant-loop-at
invariant-loop-at l = record {
  held : IfHeld l.doc l.at;
  inside : l.inside ≡ true → IfSome l.at (λ r. is_inside l.doc.state r.label ≡ true);
  each : EachHeld l.doc l.passed.items;
  made : labels_of l.passed.items ++ (climb (is_passed l.fn.simple l.doc.state) (from l.doc.state.trees (label_of l.at))).0 ≡ (climb (is_passed l.fn.simple l.doc.state) (ancestors l.doc.state.trees l.fn.node.label)).0;
  next : (climb (is_passed l.fn.simple l.doc.state) (from l.doc.state.trees (label_of l.at))).1 ≡ (climb (is_passed l.fn.simple l.doc.state) (ancestors l.doc.state.trees l.fn.node.label)).1;
}

abbrev pub decreases-loop-at : goal.decreases-loop-at
decreases-loop-at l = height l.doc.state.trees (label_of l.at)
