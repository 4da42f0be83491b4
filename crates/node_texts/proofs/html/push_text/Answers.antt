use Rattle.page_write.specs.Html.{text_char}
use Rattle.page_write.proofs.Appending.{pieces-more}
use Rattle.node_texts.proofs.html.push_text.Goals as goal

pub loop-c-preserved : goal.loop-c-preserved
loop-c-preserved c = pieces-more text_char c.args.text.now c.loop-c.c-index c.c-item.result _ _ _ c.loop-c-test.true c.c-item.is c.loop-c.invariant c.in_ok-push_text_char.ensures.ok
