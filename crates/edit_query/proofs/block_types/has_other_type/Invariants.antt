use Rattle.std.proofs.Common.{◌≡◌, drop}
use Rattle.edit_model.specs.Gives.{labels_of}
use Rattle.edit_actions.specs.EditDoc.Held.{Holds}
use Rattle.edit_query.specs.BlockTypes.{type_in, has_other_type}
use Rattle.edit_query.proofs.block_types.has_other_type.Given as goal

abbrev pub invariant-loop-node : goal.invariant-loop-node
invariant-loop-node l = record {
  held : Holds l.doc l.before;
  alike : type_in l.doc.state.trees l.host.label l.before.label ≡ l.wanted;
  same :
      has_other_type l.doc.state.trees l.host.label l.wanted (labels_of (drop l.node-index l.list))
      ≡ has_other_type l.doc.state.trees l.host.label l.wanted (labels_of l.list);
}
