use Rattle.std.proofs.Common.{arith}
use Rattle.edit_model.proofs.Steps.{labels_of_push, labels_of_drop}
use Rattle.inline_value.proofs.EditDoc.Children.{pushed_held}
use Rattle.list_indent.proofs.gathering.push_apart.Goals as goal
use Rattle.list_indent.proofs.gathering.push_apart.Goals.{then-not-is_within+in_ok-push, else-not-is_within}

pub loop-item-preserved : goal.loop-item-preserved
loop-item-preserved c =
    elim c.if-not-is_within.branch [
      | then-not-is_within+in_ok-push w ↦ (
        grind (arith, labels_of_push, labels_of_drop),
        rw w.list-is (pushed_held c.args.doc.now _ _ _ c.loop-item.invariant.1 (c.requires.items_held _ c.loop-item-test.true) w.in_ok-push.ensures.items),
      )
      | else-not-is_within w ↦ (grind (arith, labels_of_push, labels_of_drop), rw w.list-is c.loop-item.invariant.1)
    ]
