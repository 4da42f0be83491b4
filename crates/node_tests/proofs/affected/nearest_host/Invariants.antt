use Rattle.node_styles.specs.DomModel.Forest.{depth_of}
use Rattle.node_tests.specs.AffectedHost.{own_host}
use Rattle.node_tests.proofs.Hosting.{IsNoneOr}
use Rattle.node_tests.proofs.affected.nearest_host.Given as goal

abbrev pub invariant-loop-at : goal.invariant-loop-at
invariant-loop-at g l = record {
  held : g.N.Nodes.holds l.nodes l.at;
  own : IsNoneOr (own_host (g.N.Nodes.trees l.nodes) l.fn.node.label) (own_host (g.N.Nodes.trees l.nodes) l.at.label);
}

abbrev pub decreases-loop-at : goal.decreases-loop-at
decreases-loop-at g l = depth_of (g.N.Nodes.trees l.nodes) l.at.label
