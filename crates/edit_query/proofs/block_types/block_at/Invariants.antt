use Rattle.std.proofs.Common.{◌≡◌, true}
use Rattle.edit_model.specs.DomModel.Editing.{is_editable}
use Rattle.edit_model.specs.DomModel.Forest.{depth_of}
use Rattle.edit_actions.specs.EditDoc.Held.{Holds}
use Rattle.edit_query.specs.BlockTypes.{block_at}
use Rattle.edit_query.proofs.block_types.block_at.Given as goal

abbrev pub invariant-loop-parent : goal.invariant-loop-parent
invariant-loop-parent l = record {
  held : Holds l.doc l.at;
  editable : l.inside ≡ true → is_editable l.doc.state.trees l.host.label l.at.label ≡ true;
  same : block_at l.doc.state.trees l.host.label l.at.label ≡ block_at l.doc.state.trees l.host.label l.fn.node.label;
}

abbrev pub decreases-loop-parent : goal.decreases-loop-parent
decreases-loop-parent l = depth_of l.doc.state.trees l.at.label
