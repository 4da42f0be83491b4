use Rattle.std.proofs.Common.{◌≡◌, ℕ}
use Rattle.edit_model.specs.DomModel.declared.Content.{Content}
use Rattle.edit_model.specs.DomModel.Forest.{depth_of}
use Rattle.edit_model.specs.DomModel.TreeOrder.{total_after}
use Rattle.edit_parts.specs.Walk.{IsIn}
use Rattle.edit_parts.proofs.trees.after.Given as goal

abbrev pub invariant-loop-at : goal.invariant-loop-at
invariant-loop-at l = record {
  place : IsIn l.arena l.top l.at;
  same : (w : ℕ → Content → ℕ) → total_after w l.arena.trees l.fn.place.node.label ≡ total_after w l.arena.trees l.at.node.label;
}

abbrev pub decreases-loop-at : goal.decreases-loop-at
decreases-loop-at l = depth_of l.arena.trees l.at.node.label
