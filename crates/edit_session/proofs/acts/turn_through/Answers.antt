use Rattle.std.proofs.Common.{◌≡◌, ◌<◌, ◌+◌, ◌-◌, length, sym, ◌∙◌, arith}
use Rattle.std.specs.Prelude.{min}
use Rattle.edit_engine.specs.Turning.{entries_of, turned_by}
use Rattle.edit_session.proofs.Turns.{turn_more, turn_none, turned_length, turned_none, one_left, none_left, none_there, none_of}
use Rattle.edit_session.proofs.acts.turn_through.Goals as goal

pub loop-taken-preserved : goal.loop-taken-preserved
loop-taken-preserved c =
    let way = c.args.turn in
    let e = c.loop-taken.editor.editing in
    let i = c.loop-taken.invariant in
    let some : 0 < length (entries_of way e.history) = c.turn.ensures.answer.0 c.if-turn.true in
    let less = turned_length way e some in
    let new : c.turn.new.self.editing ≡ turned_by way e = c.turn.ensures.turned in
    let one = one_left c.args.count c.loop-taken.taken (length (entries_of way e.history)) (length (entries_of way (turned_by way e).history)) c.loop-taken-test.true less in
    record {
      within = omega (arith, c.loop-taken-test.true);
      left = rw new (omega (arith, one, i.left));
      after = rw new (sym (turn_more (min (c.args.count - c.loop-taken.taken) (length (entries_of way e.history))) (min (c.args.count - (c.loop-taken.taken + 1)) (length (entries_of way (turned_by way e).history))) (turned_by way) e one) ∙ i.after);
    }

pub returns-else-turn-clause-after : goal.returns-else-turn-clause-after
returns-else-turn-clause-after c =
    let way = c.args.turn in
    let e = c.loop-taken.editor.editing in
    let none : length (entries_of way e.history) ≡ 0 = none_of (length (entries_of way e.history)) c.turn.result c.turn.ensures.answer c.if-turn.false in
    c.turn.ensures.turned ∙ (turned_none way e none ∙ (sym (turn_none (min (c.args.count - c.loop-taken.taken) (length (entries_of way e.history))) (turned_by way) e (none_there c.args.count c.loop-taken.taken (length (entries_of way e.history)) none)) ∙ c.loop-taken.invariant.after))

pub returns-after-loop-taken-clause-after : goal.returns-after-loop-taken-clause-after
returns-after-loop-taken-clause-after c =
    let way = c.args.turn in
    let e = c.loop-taken.editor.editing in
    sym (turn_none (min (c.args.count - c.loop-taken.taken) (length (entries_of way e.history))) (turned_by way) e (none_left c.args.count c.loop-taken.taken (length (entries_of way e.history)) (omega (arith, c.loop-taken-test.false)))) ∙ c.loop-taken.invariant.after
