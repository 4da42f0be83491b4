use Rattle.std.proofs.Common.{◌≡◌}
use Rattle.node_tests.specs.NodeStyles.TurnBound.{turn_bound}
use Rattle.block_extend.specs.BlockExtend.{walk}
use Rattle.block_extend.specs.Gaps.{Stands, point_of, step, stops}
use Rattle.block_extend.proofs.extending.walk.Given as goal

abbrev pub invariant-walk : goal.invariant-walk
invariant-walk g l = record {
  stands : Stands (g.N.Nodes.holds l.nodes) (g.N.Nodes.trees l.nodes) l.at;
  same : walk (step l.way (g.N.Nodes.trees l.nodes)) (stops l.way (g.N.Nodes.trees l.nodes)) l.left (point_of l.at) ≡ walk (step l.way (g.N.Nodes.trees l.nodes)) (stops l.way (g.N.Nodes.trees l.nodes)) (turn_bound (g.N.Nodes.trees l.nodes)) (point_of l.fn.start);
}

abbrev pub decreases-walk : goal.decreases-walk
decreases-walk g l = l.left
