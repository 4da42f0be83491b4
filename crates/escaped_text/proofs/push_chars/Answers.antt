use Rattle.escaped_text.proofs.Texts.{chars-more}
use Rattle.escaped_text.proofs.push_chars.Goals as goal

pub loop-c-preserved : goal.loop-c-preserved
loop-c-preserved c = chars-more c.args.text.now c.loop-c.c-index c.c-item.result _ _ _ c.loop-c-test.true c.c-item.is c.loop-c.invariant c.in_ok-push_char.ensures.ok
