use Rattle.std.proofs.Common.{◌≡◌}
use Rattle.std.specs.List.{list_any}
use Rattle.inline_value.specs.NodeTests.Visible.{is_visible}
use Rattle.edit_model.specs.Gives.{label_of}
use Rattle.inline_value.specs.EditDoc.Held.{IfHeld}
use Rattle.inline_value.proofs.EditDoc.Children.{IsChild, size_from}
use Rattle.inline_value.proofs.EditActions.Children.{rest_at}
use Rattle.delete_core.specs.Erasing.{shows_child}
use Rattle.delete_core.proofs.erasing.shows_child.Given as goal

-- a child from here on is visible where one is at all
abbrev pub invariant-loop-at : goal.invariant-loop-at
invariant-loop-at l = record {
  held : IfHeld l.doc l.at;
  inner : IsChild l.doc.state.trees l.fn.node.label (label_of l.at);
  same : list_any (is_visible l.doc.state.trees) (rest_at l.doc l.at) ≡ shows_child l.doc.state.trees l.fn.node.label;
}

abbrev pub decreases-loop-at : goal.decreases-loop-at
decreases-loop-at l = size_from l.doc.state.trees (label_of l.at)
