use Rattle.std.proofs.Common.{◌≡◌}
use Rattle.std.specs.Prelude.{slice_get}
use Rattle.node_styles.specs.DomModel.Forest.{tops, children_of}
use Rattle.node_styles.specs.NodeArena.Held.{label}
use Rattle.node_tests.specs.Listing.{siblings}
use Rattle.node_tests.proofs.Kids.{Kid}
use Rattle.node_tests.proofs.block_points.child_at.Given as goal

abbrev pub invariant-loop-left : goal.invariant-loop-left
invariant-loop-left g l = record {
  kid : Kid (g.N.Nodes.holds l.nodes) (g.N.Nodes.trees l.nodes) l.fn.node.label l.child;
  same : slice_get (children_of (g.N.Nodes.trees l.nodes) l.fn.node.label) l.fn.offset ≡ slice_get (tops (siblings (g.N.Nodes.trees l.nodes) (label l.child))) l.left;
}

abbrev pub decreases-loop-left : goal.decreases-loop-left
decreases-loop-left g l = l.left
