use Rattle.escaped_text.proofs.Texts.{escaped_bytes-nil, escapes-more}
use Rattle.escaped_text.proofs.push_escaped.Goals as goal

pub loop-c-init : goal.loop-c-init
loop-c-init c = escaped_bytes-nil _

pub loop-c-preserved : goal.loop-c-preserved
loop-c-preserved c = escapes-more c.args.text.now c.loop-c.c-index c.c-item.result _ _ _ c.loop-c-test.true c.c-item.is c.loop-c.invariant c.in_ok-push_escape.ensures.ok
