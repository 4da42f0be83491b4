use Rattle.std.proofs.lemmas.List.{take_rest}
use Rattle.edit_session.proofs.BlockLemmas.{step-found, step-more}
use Rattle.edit_session.proofs.block.part_lines.Goals as goal

pub returns-then-eq-clause-shown : goal.returns-then-eq-clause-shown
returns-then-eq-clause-shown c =
    step-found c.args.word.now c.args.lines.now _ c.after_line-next.result.now c.loop-at.at c.line_end-end.result c.saturating_sub.result c.loop-at.invariant
    (record {
      inside = c.loop-at-test.true;
      rest-is = take_rest c.args.lines.now c.loop-at.at;
      end-is = c.line_end-end.ensures.value;
      acts-is = c.after_line-next.ensures.value;
    })
    c.saturating_sub.ensures c.if-eq.ensures

pub loop-at-preserved : goal.loop-at-preserved
loop-at-preserved c =
    step-more c.args.word.now c.args.lines.now _ c.after_line-next.result.now c.loop-at.at c.line_end-end.result c.loop-at.invariant
    (record {
      inside = c.loop-at-test.true;
      rest-is = take_rest c.args.lines.now c.loop-at.at;
      end-is = c.line_end-end.ensures.value;
      acts-is = c.after_line-next.ensures.value;
    })
    c.if-eq.ensures
