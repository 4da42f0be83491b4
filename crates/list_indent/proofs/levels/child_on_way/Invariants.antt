use Rattle.std.proofs.Common.{◌≡◌, ◌||◌}
use Rattle.std.specs.Prelude.{find, ◌==◌}
use Rattle.edit_model.specs.DomModel.Forest.{is_label, children_of}
use Rattle.edit_model.specs.Gives.{label_of}
use Rattle.inline_value.specs.EditDoc.Held.{IfHeld}
use Rattle.inline_value.proofs.EditDoc.Children.{IsChild, size_from}
use Rattle.inline_value.proofs.EditActions.Children.{rest_at}
use Rattle.list_indent.proofs.levels.child_on_way.Given as goal

-- the child is the first of those still to come that is on the way
abbrev pub invariant-loop-at : goal.invariant-loop-at
invariant-loop-at l = record {
  held : IfHeld l.doc l.at;
  inner : IsChild l.doc.state.trees l.fn.element.label (label_of l.at);
  rest : find (λ k. k == l.fn.node.label || is_label (label_of l.fn.below) k) (rest_at l.doc l.at)
      ≡ find (λ k. k == l.fn.node.label || is_label (label_of l.fn.below) k) (children_of l.doc.state.trees l.fn.element.label);
}

abbrev pub decreases-loop-at : goal.decreases-loop-at
decreases-loop-at l = size_from l.doc.state.trees (label_of l.at)
