use Rattle.std.proofs.Common.{◌≡◌}
use Rattle.std.specs.List.{list_any}
use Rattle.inline_value.specs.NodeStyles.NameClasses.{is_indentation}
use Rattle.edit_model.specs.Gives.{label_of}
use Rattle.inline_value.specs.EditDoc.Held.{IfHeld}
use Rattle.list_indent.specs.Gaps.{is_indented}
use Rattle.inline_value.proofs.Above.{from, height}
use Rattle.list_indent.proofs.outdenting.is_indented.Given as goal

-- the ancestors still to be asked decide
abbrev pub invariant-loop-at : goal.invariant-loop-at
invariant-loop-at l = record {
  held : IfHeld l.doc l.at;
  rest : list_any (is_indentation l.doc.state.trees) (from l.doc.state.trees (label_of l.at)) ≡ is_indented l.doc.state l.fn.node.label;
}

abbrev pub decreases-loop-at : goal.decreases-loop-at
decreases-loop-at l = height l.doc.state.trees (label_of l.at)
