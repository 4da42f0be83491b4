use Rattle.node_tests.specs.LineBreaks.{turn_to, meets_break}
use Rattle.node_tests.proofs.Turns.{Reached}
use Rattle.node_tests.proofs.breaks.meets_break.Given as goal

abbrev pub invariant-walk : goal.invariant-walk
invariant-walk g l = Reached (g.N.Nodes.holds l.nodes) (g.N.Nodes.trees l.nodes) (turn_to l.side (g.N.Nodes.trees l.nodes)) l.left l.at (meets_break l.side (g.N.Nodes.trees l.nodes) l.fn.node.label)

abbrev pub decreases-walk : goal.decreases-walk
decreases-walk g l = l.left
