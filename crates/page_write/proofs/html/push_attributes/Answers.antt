use Rattle.std.proofs.Common.{arith}
use Rattle.page_write.specs.Html.{attribute_html}
use Rattle.page_write.proofs.Appending.{pieces-through}
use Rattle.page_write.proofs.html.push_attributes.Goals as goal

pub loop-place-preserved : goal.loop-place-preserved
loop-place-preserved c = pieces-through attribute_html c.args.list.now c.loop-place.place _ _ _ (omega arith) c.loop-place.invariant c.in_ok-push_attribute_at.ensures.ok
