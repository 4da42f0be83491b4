use Rattle.std.proofs.Common.{IfSome}
use Rattle.node_arena.specs.DomModel.Forest.{children_of}
use Rattle.node_arena.specs.Held.{label}
use Rattle.point_order.proofs.Children.{Walked}
use Rattle.point_order.proofs.has_children.Given as goal

abbrev pub invariant-loop-left : goal.invariant-loop-left
invariant-loop-left g l = record {
  held : IfSome l.child (λ r. g.N.Nodes.holds l.nodes r);
  walked : Walked (children_of (g.N.Nodes.trees l.nodes) l.fn.node.label) l.left l.fn.count (label l.child);
}

abbrev pub decreases-loop-left : goal.decreases-loop-left
decreases-loop-left g l = l.left
