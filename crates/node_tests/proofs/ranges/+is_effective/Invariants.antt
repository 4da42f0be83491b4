use Rattle.node_styles.specs.DomModel.Forest.{tree_of}
use Rattle.node_tests.proofs.Inside.{nodes}
use Rattle.node_tests.proofs.ranges.+is_effective.Given as goal

abbrev pub decreases-is_effective : goal.decreases-is_effective
decreases-is_effective g l = nodes (tree_of (g.N.Nodes.trees l.nodes.now) l.node.label)
