use Rattle.std.proofs.Common.{arith}
use Rattle.page_write.proofs.Appending.{pieces-through}
use Rattle.packed_edits.specs.Packed.{attribute_bytes}
use Rattle.packed_edits.proofs.push_each_attribute.Goals as goal

pub loop-place-preserved : goal.loop-place-preserved
loop-place-preserved c = pieces-through attribute_bytes c.args.list.now c.loop-place.place _ _ _ (omega arith) c.loop-place.invariant c.in_ok-push_attribute.ensures.ok
