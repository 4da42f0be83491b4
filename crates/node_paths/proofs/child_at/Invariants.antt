use Rattle.std.proofs.Common.{◌≡◌, ℕ, ◌∷◌, List, IfSome}
use Rattle.node_arena.specs.Held.{Holds, label}
use Rattle.node_paths.specs.Onward.{onward_at, IsInner, node_below}
use Rattle.node_paths.specs.Paths.{node_in}
use Rattle.node_paths.proofs.Visiting.{size_from}
use Rattle.node_paths.proofs.child_at.Given as goal

-- the way from a later child on is the way from the node
abbrev pub invariant-loop-at : goal.invariant-loop-at
invariant-loop-at l = record {
  held : IfSome l.at (λ r. Holds l.arena r);
  inner : IsInner l.arena.trees (label l.at);
  way : (rest : List ℕ) → node_in (onward_at l.arena.trees (label l.at)) (l.left ∷ rest) ≡ node_below l.arena.trees l.fn.node.label (l.fn.index ∷ rest);
}

abbrev pub decreases-loop-at : goal.decreases-loop-at
decreases-loop-at l = size_from l.arena.trees (label l.at)
