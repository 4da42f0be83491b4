use Rattle.std.proofs.Common.{◌≡◌, ◌+◌}
use Rattle.dom_model.specs.Places.{index_of}
use Rattle.node_arena.specs.Held.{Holds}
use Rattle.node_arena.proofs.Arena.index.Given as goal

abbrev pub invariant-loop-prev : goal.invariant-loop-prev
invariant-loop-prev l = record {
  held : Holds l.self l.at;
  sum : l.index + index_of l.self.trees l.at.label ≡ index_of l.self.trees l.fn.node.label;
}

abbrev pub decreases-loop-prev : goal.decreases-loop-prev
decreases-loop-prev l = index_of l.self.trees l.at.label
