use Rattle.std.proofs.Common.{sym, ap, ◌∙◌, arith, Some}
use Rattle.node_arena.proofs.DomModel.Within.{depth_of-parent}
use Rattle.point_order.proofs.Toward.{toward-parent, toward-child, toward-root}
use Rattle.point_order.proofs.child_toward.Goals as goal

pub returns-then-parent-top : goal.returns-then-parent-top
returns-then-parent-top g c =
    let f = (g.N.Nodes.trees c.args.nodes.now) in
    let up = sym c.in-Some.ensures.is ∙ ap Some c.if-parent-top.true in
    record {
      is = sym (toward-child f c.valid.ensures.distinct c.args.top.label c.loop-parent.at.label up) ∙ c.loop-parent.invariant.same;
      held = c.loop-parent.invariant.held;
    }

pub loop-parent-smaller : goal.loop-parent-smaller
loop-parent-smaller g c = omega (arith, depth_of-parent (g.N.Nodes.trees c.args.nodes.now) c.loop-parent.at.label c.in-Some.parent.label c.valid.ensures.distinct (sym c.in-Some.ensures.is))

pub loop-parent-preserved : goal.loop-parent-preserved
loop-parent-preserved g c = record {
  held = c.in-Some.ensures.held;
  same =
      toward-parent (g.N.Nodes.trees c.args.nodes.now) c.valid.ensures.distinct c.args.top.label c.loop-parent.at.label c.in-Some.parent.label (sym c.in-Some.ensures.is) c.if-parent-top.false
      ∙ c.loop-parent.invariant.same;
}

pub returns : goal.returns
returns g c = record {
  is =
      sym (toward-root (g.N.Nodes.trees c.args.nodes.now) c.valid.ensures.distinct c.args.top.label c.loop-parent.at.label (sym c.in_default.ensures.is))
      ∙ c.loop-parent.invariant.same;
  held = tt;
}
