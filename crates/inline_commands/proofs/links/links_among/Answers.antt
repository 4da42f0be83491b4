use Rattle.std.proofs.Common.{arith}
use Rattle.edit_model.proofs.Steps.{labels_of_push, labels_of_drop}
use Rattle.inline_value.proofs.EditDoc.Children.{pushed_held}
use Rattle.inline_commands.proofs.links.links_among.Goals as goal
use Rattle.inline_commands.proofs.links.links_among.Goals.{then-is_link+in_ok-push, else-is_link}

pub loop-node-preserved : goal.loop-node-preserved
loop-node-preserved c =
    elim c.if-is_link.branch [
      | then-is_link+in_ok-push w ↦ (
        grind (arith, labels_of_push, labels_of_drop),
        rw w.kept-is (pushed_held c.args.doc.now _ _ _ c.loop-node.invariant.1 (c.requires _ c.loop-node-test.true) w.in_ok-push.ensures.items),
      )
      | else-is_link w ↦ (grind (arith, labels_of_push, labels_of_drop), rw w.kept-is c.loop-node.invariant.1)
    ]
