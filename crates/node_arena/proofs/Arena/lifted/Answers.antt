use Rattle.std.proofs.Common.{refl, sym, ◌∙◌, arith}
use Rattle.dom_model.proofs.Within.{within_self, within_up, has_parent, depth_of-parent}
use Rattle.node_arena.proofs.BeforeOk.{named_some}
use Rattle.node_arena.proofs.Arena.lifted.Goals as goal

pub loop-left-init : goal.loop-left-init
loop-left-init c =
    let law = c.valid.ensures in
    record {
      held = c.requires;
      above = within_self c.args.self.now.trees c.args.node.label law.distinct (law.here c.args.node.slot c.args.node.label c.requires);
      deep = c.depth-left.ensures;
      low = omega (arith, c.depth-left.ensures);
      high = omega (arith, c.depth-left.ensures);
      start = λ _. refl;
    }

pub unwrap-at-requires : goal.unwrap-at-requires
unwrap-at-requires c =
    let s = c.args.self.now in
    let law = c.valid.ensures in
    let i = c.loop-left.invariant in
    let t = c.loop-left-test.true in
    let p = has_parent s.trees law.distinct c.loop-left.at.label (law.here c.loop-left.at.slot c.loop-left.at.label i.held) (omega (arith, i.deep, t)) in
    named_some c.parent.result p.0 (c.parent.ensures.is ∙ p.1)

pub loop-left-preserved : goal.loop-left-preserved
loop-left-preserved c =
    let s = c.args.self.now in
    let law = c.valid.ensures in
    let i = c.loop-left.invariant in
    let t = c.loop-left-test.true in
    let p = rw c.unwrap-at.ensures at c.parent.ensures in
    let more = depth_of-parent s.trees c.loop-left.at.label c.unwrap-at.result.label law.distinct (sym p.is) in
    record {
      held = p.held;
      above = within_up s.trees law.distinct c.loop-left.at.label c.unwrap-at.result.label c.args.node.label (sym p.is) i.above;
      deep = omega (arith, i.deep, more);
      low = omega (arith, i.low, t);
      high = omega (arith, i.high);
      start = λ e. absurd (omega (arith, e, i.high, t));
    }
