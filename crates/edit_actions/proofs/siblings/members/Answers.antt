use Rattle.std.proofs.Common.{arith}
use Rattle.edit_model.proofs.Steps.{labels_of_push, labels_of_drop}
use Rattle.edit_doc.proofs.Children.{pushed_held}
use Rattle.edit_actions.specs.Siblings.{members}
use Rattle.edit_actions.proofs.siblings.members.Goals as goal
use Rattle.edit_actions.proofs.siblings.members.Goals.{then-is_same+in_ok-push, else-is_same}

pub loop-member-preserved : goal.loop-member-preserved
unfolding members
loop-member-preserved c =
    elim c.if-is_same.branch [
      | then-is_same+in_ok-push w ↦ (
        grind (arith, labels_of_push, labels_of_drop),
        rw w.kept-is (pushed_held c.args.doc.now _ _ _ c.loop-member.invariant.1 (c.requires _ c.loop-member-test.true) w.in_ok-push.ensures.items),
      )
      | else-is_same w ↦ (grind (arith, labels_of_push, labels_of_drop), rw w.kept-is c.loop-member.invariant.1)
    ]
