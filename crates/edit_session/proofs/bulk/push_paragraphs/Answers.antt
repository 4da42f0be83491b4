use Rattle.std.proofs.Common.{arith}
use Rattle.edit_session.proofs.BulkTexts.{none_yet, one_more}
use Rattle.edit_session.proofs.bulk.push_paragraphs.Goals as goal

pub loop-number-init : goal.loop-number-init
loop-number-init c = record { text = none_yet _; within = omega arith }

pub loop-number-preserved : goal.loop-number-preserved
loop-number-preserved c = record {
  text = one_more c.loop-number.number _ _ _ c.loop-number.invariant.text c.in_ok-push_paragraph.ensures;
  within = omega (arith, c.loop-number-test.true);
}
