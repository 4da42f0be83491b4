use Rattle.std.proofs.Common.{arith}
use Rattle.edit_model.proofs.Steps.{labels_of_push, labels_of_drop}
use Rattle.inline_value.proofs.EditDoc.Children.{pushed_held}
use Rattle.block_commands.proofs.gathered.chosen_of.Goals as goal
use Rattle.block_commands.proofs.gathered.chosen_of.Goals.{then-chooses+in_ok-push, else-chooses}

pub loop-node-preserved : goal.loop-node-preserved
loop-node-preserved g c =
    elim c.if-chooses.branch [
      | then-chooses+in_ok-push w ↦ (
        grind (arith, labels_of_push, labels_of_drop),
        rw w.kept-is (pushed_held c.args.doc.now _ _ _ c.loop-node.invariant.1 (c.requires _ c.loop-node-test.true) w.in_ok-push.ensures.items),
      )
      | else-chooses w ↦ (grind (arith, labels_of_push, labels_of_drop), rw w.kept-is c.loop-node.invariant.1)
    ]
