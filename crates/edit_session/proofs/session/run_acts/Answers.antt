use Rattle.std.proofs.Common.{◌+◌, take, drop, arith}
use Rattle.edit_session.proofs.Runs.{so_far-start, so_far-more, so_far-ends, so_far-whole, acts_parted, some_left, none_left}
use Rattle.edit_session.proofs.session.run_acts.Goals as goal

pub loop-rest-init : goal.loop-rest-init
loop-rest-init g c = record { written = so_far-start _ _; counted = omega arith }

pub returns-in_default : goal.returns-in_default
returns-in_default g c =
    let some = some_left _ c.loop-rest.rest.now c.is_empty.ensures c.loop-rest-test.true in
    let parts = acts_parted c.args.gate.now c.loop-rest.editor.editing c.loop-rest.rest.now (take c.line_end-end.result c.loop-rest.rest.now) (drop (c.line_end-end.result + 1) c.loop-rest.rest.now) some c.line_end-end.ensures.line in
    so_far-ends _ _ _ _ _ _ _ _ _ _ _ c.loop-rest.invariant.written parts c.act.ensures.follows c.loop-rest.invariant.counted c.in_default.not-Done

pub loop-rest-preserved : goal.loop-rest-preserved
loop-rest-preserved g c =
    let some = some_left _ c.loop-rest.rest.now c.is_empty.ensures c.loop-rest-test.true in
    let parts = acts_parted c.args.gate.now c.loop-rest.editor.editing c.loop-rest.rest.now (take c.line_end-end.result c.loop-rest.rest.now) (drop (c.line_end-end.result + 1) c.loop-rest.rest.now) some c.line_end-end.ensures.line in
    record {
      written = so_far-more _ _ _ _ _ _ _ c.loop-rest.invariant.written (rw (c.after_line-rest.ensures.value, c.act.ensures.after c.in-Done.is) parts) (c.act.ensures.follows.whole c.in-Done.is);
      counted = omega (arith, c.loop-rest.invariant.counted, c.act.ensures.follows.counted);
    }

pub returns : goal.returns
returns g c = so_far-whole _ _ _ _ _ _ c.loop-rest.invariant.written (none_left c.args.gate.now c.loop-rest.editor.editing _ c.loop-rest.rest.now c.is_empty.ensures c.loop-rest-test.false) c.loop-rest.invariant.counted
