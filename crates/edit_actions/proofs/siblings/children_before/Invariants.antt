use Rattle.std.proofs.Common.{◌≡◌, ◌++◌}
use Rattle.edit_model.specs.DomModel.Forest.{children_of}
use Rattle.edit_model.specs.Gives.{label_of, labels_of}
use Rattle.edit_doc.specs.Held.{IfHeld, EachHeld}
use Rattle.edit_doc.proofs.Children.{IsChild, size_from}
use Rattle.edit_actions.specs.Siblings.{until}
use Rattle.edit_actions.proofs.Children.{rest_at}
use Rattle.edit_actions.proofs.siblings.children_before.Given as goal

-- the children so far are listed, and those before the end are still to be listed
abbrev pub invariant-loop-at : goal.invariant-loop-at
invariant-loop-at l = record {
  held : IfHeld l.doc l.at;
  inner : IsChild l.doc.state.trees l.fn.node.label (label_of l.at);
  each : EachHeld l.doc l.list.items;
  made : labels_of l.list.items ++ until l.fn.end.label (rest_at l.doc l.at) ≡ until l.fn.end.label (children_of l.doc.state.trees l.fn.node.label);
}

abbrev pub decreases-loop-at : goal.decreases-loop-at
decreases-loop-at l = size_from l.doc.state.trees (label_of l.at)
