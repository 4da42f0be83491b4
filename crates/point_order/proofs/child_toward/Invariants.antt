use Rattle.std.proofs.Common.{◌≡◌}
use Rattle.node_arena.specs.DomModel.Forest.{depth_of}
use Rattle.point_order.specs.PointOrder.{child_toward}
use Rattle.point_order.proofs.child_toward.Given as goal

abbrev pub invariant-loop-parent : goal.invariant-loop-parent
invariant-loop-parent g l = record {
  held : g.N.Nodes.holds l.nodes l.at;
  same : child_toward (g.N.Nodes.trees l.nodes) l.top.label l.at.label ≡ child_toward (g.N.Nodes.trees l.nodes) l.top.label l.fn.node.label;
}

abbrev pub decreases-loop-parent : goal.decreases-loop-parent
decreases-loop-parent g l = depth_of (g.N.Nodes.trees l.nodes) l.at.label
