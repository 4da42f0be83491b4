use Rattle.std.proofs.Common.{◌≡◌, ◌≤◌, length, drop}
use Rattle.edit_model.specs.LiveRange.PointsEdit.{has_label}
use Rattle.edit_model.specs.Gives.{labels_of}
use Rattle.edit_doc.proofs.command.Command.has_newly_detached.Given as goal

abbrev pub invariant-loop-i : goal.invariant-loop-i
invariant-loop-i l = record {
  rest : has_label (labels_of (drop l.i l.self.detached.items)) l.node.label ≡ has_label (labels_of (drop l.self.detached_before l.self.detached.items)) l.node.label;
  low : l.self.detached_before ≤ l.i;
  end : l.i-end ≡ length l.self.detached.items;
}
