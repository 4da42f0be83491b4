use Rattle.node_arena.specs.DomModel.Forest.{IsWithin, depth_of}
use Rattle.point_order.proofs.root_of.Given as goal

abbrev pub invariant-loop-parent : goal.invariant-loop-parent
invariant-loop-parent g l = record {
  held : g.N.Nodes.holds l.nodes l.at;
  within : IsWithin (g.N.Nodes.trees l.nodes) l.at.label l.fn.node.label;
}

abbrev pub decreases-loop-parent : goal.decreases-loop-parent
decreases-loop-parent g l = depth_of (g.N.Nodes.trees l.nodes) l.at.label
