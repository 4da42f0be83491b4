use Rattle.std.proofs.Common.{◌≡◌}
use Rattle.std.specs.List.{list_any}
use Rattle.edit_model.specs.DomModel.Forest.{depth_of}
use Rattle.inline_value.specs.EditDoc.Held.{Holds}
use Rattle.text_deletion.specs.Entries.{indents_line, has_indenter}
use Rattle.inline_value.specs.Forcing.{ancestors}
use Rattle.text_deletion.proofs.outdents.has_indenter.Given as goal

-- the ancestors still to be asked decide
abbrev pub invariant-loop-parent : goal.invariant-loop-parent
invariant-loop-parent l = record {
  held : Holds l.doc l.at;
  rest : list_any (indents_line l.doc.state) (ancestors l.doc.state.trees l.at.label) ≡ has_indenter l.doc.state l.fn.node.label;
}

abbrev pub decreases-loop-parent : goal.decreases-loop-parent
decreases-loop-parent l = depth_of l.doc.state.trees l.at.label
