use Rattle.std.proofs.Common.{◌≡◌}
use Rattle.edit_model.specs.DomModel.Forest.{depth_of}
use Rattle.inline_value.specs.EditDoc.Held.{Holds}
use Rattle.delete_core.specs.Merging.{list_to_join}
use Rattle.delete_core.proofs.lists.list_to_join.Given as goal

abbrev pub invariant-loop-at : goal.invariant-loop-at
invariant-loop-at l = record {
  held : Holds l.doc l.at;
  same : list_to_join l.doc.state l.at.label ≡ list_to_join l.doc.state l.fn.node.label;
}

abbrev pub decreases-loop-at : goal.decreases-loop-at
decreases-loop-at l = depth_of l.doc.state.trees l.at.label
