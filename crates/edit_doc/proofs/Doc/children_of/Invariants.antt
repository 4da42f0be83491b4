use Rattle.std.proofs.Common.{◌≡◌, ◌++◌}
use Rattle.edit_model.specs.DomModel.Forest.{tops, children_of}
use Rattle.edit_model.specs.Gives.{label_of, labels_of}
use Rattle.edit_doc.specs.Held.{IfHeld, EachHeld}
use Rattle.edit_doc.proofs.Children.{onward_at, IsChild, size_from}
use Rattle.edit_doc.proofs.Doc.children_of.Given as goal

-- the children so far are listed, and the others are still to be listed
abbrev pub invariant-loop-at : goal.invariant-loop-at
invariant-loop-at l = record {
  held : IfHeld l.self l.at;
  inner : IsChild l.self.state.trees l.fn.node.label (label_of l.at);
  each : EachHeld l.self l.list.items;
  made : labels_of l.list.items ++ tops (onward_at l.self.state.trees (label_of l.at)) ≡ children_of l.self.state.trees l.fn.node.label;
}

abbrev pub decreases-loop-at : goal.decreases-loop-at
decreases-loop-at l = size_from l.self.state.trees (label_of l.at)
