use Rattle.std.proofs.Common.{◌≡◌, ℕ, ◌≤◌, ◌&&◌, length, take}
use Rattle.edit_model.specs.DomModel.Forest.{preorder, tree_of}
use Rattle.edit_model.specs.LiveRange.PointsEdit.{has_label}
use Rattle.edit_parts.proofs.following.labels_within.Given as goal

abbrev pub invariant-loop-label : goal.invariant-loop-label
invariant-loop-label l = record {
  few : l.count ≤ l.label-index;
  size : length l.labels ≡ 36;
  tells : (x : ℕ) → has_label (take l.count l.labels) x ≡ (has_label (take l.label-index l.list) x && has_label (preorder (tree_of l.arena.trees l.top.label)) x);
}
