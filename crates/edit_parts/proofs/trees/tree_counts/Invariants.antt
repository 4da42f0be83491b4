use Rattle.std.proofs.Common.{◌≡◌, ◌≤◌, ◌+◌, ℕ, cond, eqb}
use Rattle.std.specs.Option.{option_map_or}
use Rattle.edit_model.specs.DomModel.Contents.{words_length}
use Rattle.edit_model.specs.DomModel.Forest.{content_of, depth_of, IsWithin}
use Rattle.edit_model.specs.DomModel.TreeOrder.{total_from, total_after}
use Rattle.edit_parts.specs.Walk.{IsIn}
use Rattle.edit_parts.proofs.trees.tree_counts.Given as goal

-- each node of the tree that doesn't come after the place is no deeper than `depth`, and some node is so deep
abbrev pub invariant-loop-next : goal.invariant-loop-next
invariant-loop-next l = record {
  place : IsIn l.arena l.top l.at;
  nodes : l.nodes + total_from (λ _ _. 1) l.arena.trees l.at.node.label ≡ 1 + total_from (λ _ _. 1) l.arena.trees l.top.label;
  chars : l.chars + total_from (λ _ c. words_length c) l.arena.trees l.at.node.label ≡ option_map_or words_length (content_of l.arena.trees l.at.node.label) 0 + total_from (λ _ c. words_length c) l.arena.trees l.top.label;
  high : (x : ℕ) → IsWithin l.arena.trees l.top.label x → total_from (λ m _. cond (eqb m x) 1 0) l.arena.trees l.at.node.label ≤ cond (eqb l.at.node.label x) 1 0 + total_after (λ m _. cond (eqb m x) 1 0) l.arena.trees l.top.label → depth_of l.arena.trees x ≤ l.depth + depth_of l.arena.trees l.top.label;
  reached : (x : ℕ) × IsWithin l.arena.trees l.top.label x × (depth_of l.arena.trees x ≡ l.depth + depth_of l.arena.trees l.top.label);
}

abbrev pub decreases-loop-next : goal.decreases-loop-next
decreases-loop-next l = total_from (λ _ _. 1) l.arena.trees l.at.node.label
