use Rattle.std.proofs.Common.{◌≡◌}
use Rattle.node_styles.specs.DomModel.Forest.{depth_of}
use Rattle.node_tests.proofs.Hosting.{found_from}
use Rattle.node_tests.proofs.affected.common_host.Given as goal

abbrev pub invariant-loop-b : goal.invariant-loop-b
invariant-loop-b g l = record {
  held : g.N.Nodes.holds l.nodes l.at;
  same : found_from (g.N.Nodes.trees l.nodes) l.fn.b.label l.at.label ≡ found_from (g.N.Nodes.trees l.nodes) l.fn.b.label l.fn.a.label;
}

abbrev pub decreases-loop-b : goal.decreases-loop-b
decreases-loop-b g l = depth_of (g.N.Nodes.trees l.nodes) l.at.label
