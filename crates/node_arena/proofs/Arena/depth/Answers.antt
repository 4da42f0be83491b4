use Rattle.std.proofs.Common.{sym, arith}
use Rattle.dom_model.proofs.Within.{depth_of-parent, depth_of-root, depth_of_low}
use Rattle.node_arena.proofs.Arena.depth.Goals as goal

pub overflow_add-depth : goal.overflow_add-depth
overflow_add-depth c =
    let s = c.args.self.now in
    let law = c.valid.ensures in
    omega (arith, depth_of-parent s.trees c.loop-parent.at.label c.in-Some.parent.label law.distinct (sym c.in-Some.ensures.is), depth_of_low s.trees c.args.node.label law.distinct (law.here c.args.node.slot c.args.node.label c.requires), c.loop-parent.invariant.deep, law.few, law.capped, law.small)

pub loop-parent-smaller : goal.loop-parent-smaller
loop-parent-smaller c =
    omega (arith, depth_of-parent c.args.self.now.trees c.loop-parent.at.label c.in-Some.parent.label c.valid.ensures.distinct (sym c.in-Some.ensures.is))

pub loop-parent-preserved : goal.loop-parent-preserved
loop-parent-preserved c = record {
  held = c.in-Some.ensures.held;
  deep = omega (arith, c.loop-parent.invariant.deep, depth_of-parent c.args.self.now.trees c.loop-parent.at.label c.in-Some.parent.label c.valid.ensures.distinct (sym c.in-Some.ensures.is));
}

pub returns : goal.returns
returns c =
    let s = c.args.self.now in
    let law = c.valid.ensures in
    omega (arith, c.loop-parent.invariant.deep, depth_of-root s.trees c.loop-parent.at.label law.distinct (law.here c.loop-parent.at.slot c.loop-parent.at.label c.loop-parent.invariant.held) (sym c.in_default.ensures.is))
