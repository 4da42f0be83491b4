use Rattle.std.proofs.Common.{◌≡◌, ◌+◌}
use Rattle.dom_model.specs.TreeOrder.{total_from}
use Rattle.node_arena.specs.Walk.{IsPlace}
use Rattle.node_arena.proofs.Arena.node_count.Given as goal

abbrev pub invariant-loop-next : goal.invariant-loop-next
invariant-loop-next l = record {
  place : IsPlace l.self l.at;
  sum : l.count + total_from (λ _ _. 1) l.self.trees l.at.node.label ≡ 1 + total_from (λ _ _. 1) l.self.trees 0;
}

abbrev pub decreases-loop-next : goal.decreases-loop-next
decreases-loop-next l = total_from (λ _ _. 1) l.self.trees l.at.node.label
