use Rattle.std.proofs.Common.{◌≡◌, ℕ, ◌<◌, ◌≤◌, cond, eqb}
use Rattle.dom_model.specs.Forest.{count_of, tree_of, depth_of}
use Rattle.dom_model.specs.TreeOrder.{total_from}
use Rattle.node_arena.specs.Walk.{IsPlace}
use Rattle.node_arena.proofs.Arena.page_depth.Given as goal

-- each node that doesn't come after the place is no deeper, and some node is as deep
abbrev pub invariant-loop-next : goal.invariant-loop-next
invariant-loop-next l = record {
  place : IsPlace l.self l.at;
  high : (x : ℕ) → 0 < count_of (tree_of l.self.trees 0) x → total_from (λ m _. cond (eqb m x) 1 0) l.self.trees l.at.node.label ≤ cond (eqb l.at.node.label x) 1 0 → depth_of l.self.trees x ≤ l.deepest;
  some : (x : ℕ) × (0 < count_of (tree_of l.self.trees 0) x) × (depth_of l.self.trees x ≡ l.deepest);
}

abbrev pub decreases-loop-next : goal.decreases-loop-next
decreases-loop-next l = total_from (λ _ _. 1) l.self.trees l.at.node.label
