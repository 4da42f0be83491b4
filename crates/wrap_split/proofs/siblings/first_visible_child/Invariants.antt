use Rattle.std.proofs.Common.{◌≡◌}
use Rattle.edit_model.specs.DomModel.Forest.{children_of}
use Rattle.edit_model.specs.Gives.{label_of}
use Rattle.edit_actions.specs.EditDoc.Held.{IfHeld}
use Rattle.edit_actions.proofs.EditDoc.Children.{IsChild, size_from}
use Rattle.wrap_split.specs.Wrap.{first_visible}
use Rattle.edit_actions.proofs.Children.{rest_at}
use Rattle.wrap_split.proofs.siblings.first_visible_child.Given as goal

-- the first that is visible is one of those still to come
abbrev pub invariant-loop-at : goal.invariant-loop-at
invariant-loop-at l = record {
  held : IfHeld l.doc l.at;
  inner : IsChild l.doc.state.trees l.fn.node.label (label_of l.at);
  rest : first_visible l.doc.state (rest_at l.doc l.at) ≡ first_visible l.doc.state (children_of l.doc.state.trees l.fn.node.label);
}

abbrev pub decreases-loop-at : goal.decreases-loop-at
decreases-loop-at l = size_from l.doc.state.trees (label_of l.at)
