use Rattle.std.proofs.Common.{◌≡◌}
use Rattle.node_styles.specs.DomModel.Forest.{tree_of}
use Rattle.node_styles.specs.NodeArena.Held.{label}
use Rattle.node_tests.specs.Visible.{shows_in}
use Rattle.node_tests.specs.Listing.{siblings}
use Rattle.node_tests.proofs.Inside.{nodes}
use Rattle.node_tests.proofs.Kids.{Kid}
use Rattle.node_tests.proofs.visible.+shows_inside.Given as goal

abbrev pub decreases-shows_inside : goal.decreases-shows_inside
decreases-shows_inside g l = nodes (tree_of (g.N.Nodes.trees l.nodes.now) l.node.label)

abbrev pub invariant-loop-child : goal.invariant-loop-child
invariant-loop-child g l = record {
  kid : Kid (g.N.Nodes.holds l.nodes) (g.N.Nodes.trees l.nodes) l.fn.node.label l.child;
  same : shows_in (g.N.Nodes.trees l.nodes) (tree_of (g.N.Nodes.trees l.nodes) l.fn.node.label) ≡ shows_in (g.N.Nodes.trees l.nodes) (siblings (g.N.Nodes.trees l.nodes) (label l.child));
}

abbrev pub decreases-loop-child : goal.decreases-loop-child
decreases-loop-child g l = nodes (siblings (g.N.Nodes.trees l.nodes) (label l.child))
