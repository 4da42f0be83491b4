use Rattle.std.proofs.Common.{◌≡◌, ◌&&◌}
use Rattle.std.specs.List.{list_any}
use Rattle.edit_model.specs.DomModel.Forest.{depth_of}
use Rattle.wrap_split.specs.NodeStyles.Allowed.{allowed_in}
use Rattle.edit_model.specs.Confined.{is_inside}
use Rattle.wrap_split.specs.EditDoc.Held.{Holds}
use Rattle.inline_value.specs.Ancestors.{has_place}
use Rattle.inline_value.specs.Forcing.{ancestors}
use Rattle.inline_value.proofs.ancestors.has_place.Given as goal

-- the ancestors still to be asked decide
abbrev pub invariant-loop-parent : goal.invariant-loop-parent
invariant-loop-parent l = record {
  held : Holds l.doc l.at;
  rest : list_any (λ a. is_inside l.doc.state a && allowed_in l.doc.state.trees l.node.label a) (ancestors l.doc.state.trees l.at.label) ≡ has_place l.doc.state l.node.label;
}

abbrev pub decreases-loop-parent : goal.decreases-loop-parent
decreases-loop-parent l = depth_of l.doc.state.trees l.at.label
