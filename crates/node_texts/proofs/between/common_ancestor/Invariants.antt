use Rattle.std.proofs.Common.{◌≡◌}
use Rattle.node_styles.specs.DomModel.Forest.{depth_of}
use Rattle.node_texts.specs.Between as cut
use Rattle.node_texts.proofs.between.common_ancestor.Given as goal

-- the node is sought from here on up
abbrev pub invariant-loop-other : goal.invariant-loop-other
invariant-loop-other g l = record {
  held : g.N.Nodes.holds l.nodes l.at;
  same : cut.common_ancestor (g.N.Nodes.trees l.nodes) l.at.label l.fn.other.label ≡ cut.common_ancestor (g.N.Nodes.trees l.nodes) l.fn.node.label l.fn.other.label;
}

abbrev pub decreases-loop-other : goal.decreases-loop-other
decreases-loop-other g l = depth_of (g.N.Nodes.trees l.nodes) l.at.label
