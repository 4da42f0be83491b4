use Rattle.std.proofs.Common.{refl, ◌∙◌, arith, length-drop}
use Rattle.edit_model.proofs.Steps.{exit}
use Rattle.inline_value.proofs.EditDoc.Chosen.{keeps_both}
use Rattle.inline_value.proofs.EditQuery.Lists.{tail_is}
use Rattle.block_commands.specs.Series.{in_turns}
use Rattle.block_commands.proofs.Looping.{turn, run_fails, run_ends}
use Rattle.block_commands.proofs.turns.in_turns.Goals as goal

pub returns-in_err-at-clause-gives : goal.returns-in_err-at-clause-gives
returns-in_err-at-clause-gives g c =
    let tail = tail_is c.args.list.now c.loop-left.at in
    let fails = rw tail at c.in_err-at.ensures.gives in
    let run = g.T.Turn.run c.args.turn.now in
    exit c.from_residual.result c.in_err-at.field-0.0 c.args.doc.now.state c.take.new.doc.state (in_turns run _) c.from_residual.ensures.1
    (run_fails run c.args.list.now c.loop-left.left c.loop-left.at c.loop-left.doc.state c.loop-left-test.true c.if-at-list.true c.in_err-at.field-0.0 c.args.doc.now.state c.loop-left.invariant.0 fails)

pub loop-left-preserved : goal.loop-left-preserved
loop-left-preserved g c =
    let tail = tail_is c.args.list.now c.loop-left.at in
    let given = c.in_ok-at.ensures in
    let ended = rw tail at given.gives.0 in
    let left = rw tail at given.gives.1 in
    let within = rw tail at given.within in
    let low = c.if-at-list.true in (
      turn (g.T.Turn.run c.args.turn.now) c.args.list.now c.loop-left.left c.loop-left.at c.loop-left.doc.state c.loop-left-test.true c.if-at-list.true c.in_ok-at.field-0 c.take.new.doc.state ended left ∙ c.loop-left.invariant.0,
      omega (arith, within, low, length-drop c.loop-left.at c.args.list.now),
      keeps_both c.args.doc.now c.loop-left.doc c.take.new.doc c.loop-left.invariant.2 given.keeps,
    )

pub returns-else-at-list-clause-gives : goal.returns-else-at-list-clause-gives
returns-else-at-list-clause-gives g c =
    (run_ends (g.T.Turn.run c.args.turn.now) c.args.list.now c.loop-left.left c.loop-left.at c.loop-left.doc.state c.args.doc.now.state c.if-at-list.false c.loop-left.invariant.0, refl)
