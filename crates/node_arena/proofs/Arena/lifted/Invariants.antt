use Rattle.std.proofs.Common.{◌≡◌, ◌≤◌, min}
use Rattle.dom_model.specs.Forest.{depth_of, IsWithin}
use Rattle.node_arena.specs.Held.{Holds}
use Rattle.node_arena.proofs.Arena.lifted.Given as goal

abbrev pub invariant-loop-left : goal.invariant-loop-left
invariant-loop-left l = record {
  held : Holds l.self l.at;
  above : IsWithin l.self.trees l.at.label l.fn.node.label;
  deep : l.left ≡ depth_of l.self.trees l.at.label;
  low : min (depth_of l.self.trees l.fn.node.label) l.depth ≤ l.left;
  high : l.left ≤ depth_of l.self.trees l.fn.node.label;
  start : l.left ≡ depth_of l.self.trees l.fn.node.label → l.at ≡ l.fn.node;
}

abbrev pub decreases-loop-left : goal.decreases-loop-left
decreases-loop-left l = l.left
