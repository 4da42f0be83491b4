use Rattle.std.proofs.Common.{◌≡◌}
use Rattle.std.specs.List.{list_any}
use Rattle.edit_model.specs.DomModel.Forest.{children_of}
use Rattle.edit_model.specs.Gives.{label_of}
use Rattle.inline_value.specs.EditDoc.Held.{IfHeld}
use Rattle.inline_value.proofs.EditDoc.Children.{IsChild, size_from}
use Rattle.inline_value.proofs.EditActions.Children.{rest_at}
use Rattle.list_indent.specs.Sublists.{is_list}
use Rattle.list_indent.proofs.lists.has_list.Given as goal

-- a list is among the children still to come, if there is one
abbrev pub invariant-loop-at : goal.invariant-loop-at
invariant-loop-at l = record {
  held : IfHeld l.doc l.at;
  inner : IsChild l.doc.state.trees l.fn.node.label (label_of l.at);
  rest : list_any (is_list l.doc.state) (rest_at l.doc l.at) ≡ list_any (is_list l.doc.state) (children_of l.doc.state.trees l.fn.node.label);
}

abbrev pub decreases-loop-at : goal.decreases-loop-at
decreases-loop-at l = size_from l.doc.state.trees (label_of l.at)
