use Rattle.std.proofs.Common.{◌≡◌, ◌+◌}
use Rattle.dom_model.specs.Forest.{depth_of}
use Rattle.node_arena.specs.Held.{Holds}
use Rattle.node_arena.proofs.Arena.depth.Given as goal

abbrev pub invariant-loop-parent : goal.invariant-loop-parent
invariant-loop-parent l = record {
  held : Holds l.self l.at;
  deep : l.depth + depth_of l.self.trees l.at.label ≡ depth_of l.self.trees l.fn.node.label;
}

abbrev pub decreases-loop-parent : goal.decreases-loop-parent
decreases-loop-parent l = depth_of l.self.trees l.at.label
