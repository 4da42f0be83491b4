use Rattle.std.proofs.Common.{arith}
use Rattle.edit_model.proofs.Steps.{labels_of_push, labels_of_drop}
use Rattle.wrap_split.proofs.EditDoc.Children.{pushed_held}
use Rattle.inline_value.proofs.pushing.leading_others.Goals as goal

pub loop-node-preserved : goal.loop-node-preserved
loop-node-preserved c = (
  grind (arith, labels_of_push, labels_of_drop),
  pushed_held c.args.doc.now _ _ _ c.loop-node.invariant.1 (c.requires _ c.loop-node-test.true) c.in_ok-push.ensures.items,
)
