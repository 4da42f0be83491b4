use Rattle.std.proofs.Common.{◌≡◌, length}
use Rattle.edit_model.specs.Gives.{label_of}
use Rattle.inline_value.specs.EditDoc.Held.{IfHeld}
use Rattle.inline_value.proofs.EditDoc.Children.{IsChild}
use Rattle.inline_value.specs.WrapSplit.Wrap.{last_visible}
use Rattle.inline_value.proofs.WrapSplit.Children.{front_at}
use Rattle.list_indent.specs.Commands.{shown_before}
use Rattle.list_indent.proofs.Children.{holder}
use Rattle.list_indent.proofs.commands.shown_before.Given as goal

-- the last that is visible is one of those that the walk back has still to come to
abbrev pub invariant-loop-at : goal.invariant-loop-at
invariant-loop-at l = record {
  held : IfHeld l.doc l.at;
  inner : IsChild l.doc.state.trees (holder l.doc l.fn.node).label (label_of l.at);
  front : last_visible l.doc.state (front_at l.doc (holder l.doc l.fn.node) l.at) ≡ shown_before l.doc.state l.fn.node.label;
}

abbrev pub decreases-loop-at : goal.decreases-loop-at
decreases-loop-at l = length (front_at l.doc (holder l.doc l.fn.node) l.at)
