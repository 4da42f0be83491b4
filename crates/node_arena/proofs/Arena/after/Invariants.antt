use Rattle.std.proofs.Common.{◌≡◌, ℕ}
use Rattle.dom_model.specs.declared.Content.{Content}
use Rattle.dom_model.specs.Forest.{depth_of}
use Rattle.dom_model.specs.TreeOrder.{total_after}
use Rattle.node_arena.specs.Walk.{IsPlace}
use Rattle.node_arena.proofs.Arena.after.Given as goal

abbrev pub invariant-loop-parent : goal.invariant-loop-parent
invariant-loop-parent l = record {
  place : IsPlace l.self l.at;
  same : (w : ℕ → Content → ℕ) → total_after w l.self.trees l.fn.place.node.label ≡ total_after w l.self.trees l.at.node.label;
}

abbrev pub decreases-loop-parent : goal.decreases-loop-parent
decreases-loop-parent l = depth_of l.self.trees l.at.node.label
