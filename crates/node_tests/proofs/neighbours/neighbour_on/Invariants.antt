use Rattle.node_styles.specs.NodeArena.Held.{label}
use Rattle.node_tests.specs.SolidNeighbours.{neighbour_on}
use Rattle.node_tests.proofs.Tags.{left_in}
use Rattle.node_tests.proofs.Walking.{Walked}
use Rattle.node_tests.proofs.neighbours.neighbour_on.Given as goal

abbrev pub invariant-walk : goal.invariant-walk
invariant-walk g l = Walked (g.N.Nodes.holds l.nodes) (g.N.Nodes.trees l.nodes) l.side l.at l.next (neighbour_on l.side (g.N.Nodes.trees l.nodes) l.fn.node.label)

abbrev pub decreases-walk : goal.decreases-walk
decreases-walk g l = left_in l.side (g.N.Nodes.trees l.nodes) l.at.label (label l.next)
