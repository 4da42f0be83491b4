use Rattle.std.proofs.Common.{[]}
use Rattle.packed_edits.specs.Packed.{edit_bytes}
use Rattle.page_write.proofs.Appending.{pieces-more}
use Rattle.packed_edits.proofs.pack.Goals as goal

pub loop-edit-preserved : goal.loop-edit-preserved
loop-edit-preserved c = pieces-more edit_bytes c.args.edits.now c.loop-edit.edit-index c.edit-item.result [] _ _ c.loop-edit-test.true c.edit-item.is c.loop-edit.invariant c.in_ok-push_edit.ensures.ok
