use Rattle.std.proofs.Common.{sym, arith, true≢false, refl}
use Rattle.dom_model.proofs.Within.{depth_of-parent, within_step, within_root, within_at, within_child}
use Rattle.node_arena.proofs.Arena.is_within.Goals as goal

pub loop-at-smaller : goal.loop-at-smaller
loop-at-smaller c =
    omega (arith, depth_of-parent c.args.self.now.trees c.loop-at.at.label c.in-Some.parent.label c.valid.ensures.distinct (sym c.in-Some.ensures.is))

pub loop-at-preserved : goal.loop-at-preserved
loop-at-preserved c =
    let f = c.args.self.now.trees in
    let law = c.valid.ensures in
    let here = law.here c.args.top.slot c.args.top.label c.requires.top_held in
    let up = sym c.in-Some.ensures.is in
    record {
      held = c.in-Some.ensures.held;
      down = λ h. c.loop-at.invariant.down (within_child f c.args.top.label law.distinct here c.loop-at.at.label c.in-Some.parent.label up h);
      up = λ h. within_step f c.args.top.label law.distinct here c.loop-at.at.label c.in-Some.parent.label (λ e. c.loop-at-test.true (sym e)) up (c.loop-at.invariant.up h);
    }

pub returns-in-None : goal.returns-in-None
returns-in-None c =
    let f = c.args.self.now.trees in
    let law = c.valid.ensures in
    let here = law.here c.args.top.slot c.args.top.label c.requires.top_held in
    (λ e. absurd (true≢false (sym e)), λ h. absurd (within_root f c.args.top.label law.distinct here c.loop-at.at.label (λ e. c.loop-at-test.true (sym e)) (sym c.in-None.ensures.is) (c.loop-at.invariant.up h)))

pub returns : goal.returns
returns c =
    let f = c.args.self.now.trees in
    let law = c.valid.ensures in
    let here = law.here c.args.top.slot c.args.top.label c.requires.top_held in
    (λ _. c.loop-at.invariant.down (within_at f c.args.top.label law.distinct here c.loop-at.at.label c.loop-at-test.false), λ _. refl)
