use Rattle.page_write.specs.Html.{value_char}
use Rattle.page_write.proofs.Appending.{pieces-more}
use Rattle.page_write.proofs.html.push_value.Goals as goal

pub loop-c-preserved : goal.loop-c-preserved
loop-c-preserved c = pieces-more value_char c.args.value.now c.loop-c.c-index c.c-item.result _ _ _ c.loop-c-test.true c.c-item.is c.loop-c.invariant c.in_ok-push_value_char.ensures.ok
