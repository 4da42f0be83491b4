use Rattle.std.proofs.Common.{sym, arith}
use Rattle.node_arena.proofs.DomModel.Within.{within_self, within_up, depth_of-parent}
use Rattle.point_order.proofs.root_of.Goals as goal

pub loop-parent-init : goal.loop-parent-init
loop-parent-init g c =
    let law = c.valid.ensures in
    record {
      held = c.requires;
      within = within_self (g.N.Nodes.trees c.args.nodes.now) c.args.node.label law.distinct (law.here c.args.node c.requires);
    }

pub loop-parent-smaller : goal.loop-parent-smaller
loop-parent-smaller g c =
    omega (arith, depth_of-parent (g.N.Nodes.trees c.args.nodes.now) c.loop-parent.at.label c.in-Some.parent.label c.valid.ensures.distinct (sym c.in-Some.ensures.is))

pub loop-parent-preserved : goal.loop-parent-preserved
loop-parent-preserved g c =
    let law = c.valid.ensures in
    record {
      held = c.in-Some.ensures.held;
      within = within_up (g.N.Nodes.trees c.args.nodes.now) law.distinct c.loop-parent.at.label c.in-Some.parent.label c.args.node.label (sym c.in-Some.ensures.is) c.loop-parent.invariant.within;
    }
