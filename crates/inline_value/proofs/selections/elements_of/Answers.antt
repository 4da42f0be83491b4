use Rattle.std.proofs.Common.{arith}
use Rattle.edit_model.proofs.Steps.{labels_of_push, labels_of_drop}
use Rattle.wrap_split.proofs.EditDoc.Children.{pushed_held}
use Rattle.inline_value.proofs.selections.elements_of.Goals as goal
use Rattle.inline_value.proofs.selections.elements_of.Goals.{then-is_element+in_ok-push, else-is_element}

pub loop-node-preserved : goal.loop-node-preserved
loop-node-preserved c =
    elim c.if-is_element.branch [
      | then-is_element+in_ok-push w ↦ record {
        nodes = grind (arith, labels_of_push, labels_of_drop);
        held = rw w.kept-is (pushed_held c.args.doc.now _ _ _ c.loop-node.invariant.held (c.requires _ c.loop-node-test.true) w.in_ok-push.ensures.items);
      }
      | else-is_element w ↦ record { nodes = grind (arith, labels_of_push, labels_of_drop); held = rw w.kept-is c.loop-node.invariant.held }
    ]
