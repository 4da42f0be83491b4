use Rattle.std.proofs.Common.{◌≡◌, ◌++◌, drop}
use Rattle.std.specs.Prelude.{filter}
use Rattle.edit_model.specs.DomModel.Contents.{is_element_at}
use Rattle.edit_model.specs.Gives.{labels_of}
use Rattle.wrap_split.specs.EditDoc.Held.{EachHeld}
use Rattle.inline_value.proofs.selections.elements_of.Given as goal

-- those so far are listed, and the others are still to be listed
abbrev pub invariant-loop-node : goal.invariant-loop-node
invariant-loop-node l = record {
  nodes : labels_of l.kept.items ++ filter (is_element_at l.doc.state.trees) (labels_of (drop l.node-index l.list)) ≡ filter (is_element_at l.doc.state.trees) (labels_of l.list);
  held : EachHeld l.doc l.kept.items;
}
