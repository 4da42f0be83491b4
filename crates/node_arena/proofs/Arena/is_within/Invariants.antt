use Rattle.dom_model.specs.Forest.{depth_of, IsWithin}
use Rattle.node_arena.specs.Held.{Holds}
use Rattle.node_arena.proofs.Arena.is_within.Given as goal

abbrev pub invariant-loop-at : goal.invariant-loop-at
invariant-loop-at l = record {
  held : Holds l.self l.at;
  down : IsWithin l.self.trees l.top.label l.at.label → IsWithin l.self.trees l.top.label l.fn.node.label;
  up : IsWithin l.self.trees l.top.label l.fn.node.label → IsWithin l.self.trees l.top.label l.at.label;
}

abbrev pub decreases-loop-at : goal.decreases-loop-at
decreases-loop-at l = depth_of l.self.trees l.at.label
