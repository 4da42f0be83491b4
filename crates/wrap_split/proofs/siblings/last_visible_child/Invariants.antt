use Rattle.std.proofs.Common.{◌≡◌, length}
use Rattle.edit_model.specs.DomModel.Forest.{children_of}
use Rattle.edit_model.specs.Gives.{label_of}
use Rattle.edit_actions.specs.EditDoc.Held.{IfHeld}
use Rattle.edit_actions.proofs.EditDoc.Children.{IsChild}
use Rattle.wrap_split.specs.Wrap.{last_visible}
use Rattle.wrap_split.proofs.Children.{front_at}
use Rattle.wrap_split.proofs.siblings.last_visible_child.Given as goal

-- the last that is visible is one of those that the walk back has still to come to
abbrev pub invariant-loop-at : goal.invariant-loop-at
invariant-loop-at l = record {
  held : IfHeld l.doc l.at;
  inner : IsChild l.doc.state.trees l.fn.node.label (label_of l.at);
  front : last_visible l.doc.state (front_at l.doc l.fn.node l.at) ≡ last_visible l.doc.state (children_of l.doc.state.trees l.fn.node.label);
}

abbrev pub decreases-loop-at : goal.decreases-loop-at
decreases-loop-at l = length (front_at l.doc l.fn.node l.at)
