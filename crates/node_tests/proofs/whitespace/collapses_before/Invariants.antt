use Rattle.node_styles.specs.NodeArena.Held.{label}
use Rattle.node_tests.specs.declared.sides.Side.TheVariants.{Before}
use Rattle.node_tests.specs.Surroundings.{nodes_before}
use Rattle.node_tests.specs.CollapsedWhitespace.{collapses_at}
use Rattle.node_tests.proofs.Collapsing.{Backward}
use Rattle.node_tests.proofs.Tags.{left_in}
use Rattle.node_tests.proofs.whitespace.collapses_before.Given as goal

abbrev pub invariant-walk : goal.invariant-walk
invariant-walk g l = Backward (g.N.Nodes.holds l.nodes) (g.N.Nodes.trees l.nodes) l.at l.tree (collapses_at (g.N.Nodes.trees l.nodes) (nodes_before (g.N.Nodes.trees l.nodes) l.fn.node.label))

abbrev pub decreases-walk : goal.decreases-walk
decreases-walk g l = left_in Before (g.N.Nodes.trees l.nodes) l.at.label (label l.tree)
