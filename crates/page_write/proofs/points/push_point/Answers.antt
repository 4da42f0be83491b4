use Rattle.std.proofs.Common.{arith, ◌≡◌}
use Rattle.node_paths.specs.DomModel.Forest.{count_of}
use Rattle.page_write.proofs.Placing.{within_count}
use Rattle.page_write.proofs.points.push_point.Goals as goal

pub unreachable-requires : goal.unreachable-requires
unreachable-requires c =
    let here = within_count c.args.arena.now.trees 0 c.args.point.label c.requires in
    let none : count_of c.args.arena.now.trees c.args.point.label ≡ 0 = c.find.ensures.absent.0 c.in-None.is in
    omega (arith, here, none)
