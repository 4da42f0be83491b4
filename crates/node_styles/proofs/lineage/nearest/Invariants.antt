use Rattle.std.proofs.Common.{◌≡◌}
use Rattle.node_arena.specs.DomModel.Forest.{depth_of}
use Rattle.node_styles.specs.Lineage as line
use Rattle.node_styles.proofs.lineage.nearest.Given as goal

abbrev pub invariant-loop-at : goal.invariant-loop-at
invariant-loop-at g l = record {
  held : g.N.Nodes.holds l.nodes l.at;
  same : line.nearest (g.T.Test.test l.wanted) (g.N.Nodes.trees l.nodes) l.at.label ≡ line.nearest (g.T.Test.test l.wanted) (g.N.Nodes.trees l.nodes) l.fn.node.label;
}

abbrev pub decreases-loop-at : goal.decreases-loop-at
decreases-loop-at g l = depth_of (g.N.Nodes.trees l.nodes) l.at.label
