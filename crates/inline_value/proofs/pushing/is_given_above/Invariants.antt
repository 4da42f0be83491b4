use Rattle.std.proofs.Common.{◌≡◌}
use Rattle.std.specs.Prelude.{is_some}
use Rattle.std.specs.List.{list_any}
use Rattle.edit_model.specs.DomModel.Forest.{depth_of}
use Rattle.wrap_split.specs.CommandValue.SpecifiedValues.{specified}
use Rattle.wrap_split.specs.EditDoc.Held.{Holds}
use Rattle.inline_value.specs.Forcing.{ancestors}
use Rattle.inline_value.specs.Pushing.{is_given_above}
use Rattle.inline_value.proofs.pushing.is_given_above.Given as goal

-- the ancestors still to be asked decide
abbrev pub invariant-loop-parent : goal.invariant-loop-parent
invariant-loop-parent l = record {
  held : Holds l.doc l.at;
  rest : list_any (λ e. is_some (specified l.doc.state.trees e l.command)) (ancestors l.doc.state.trees l.at.label) ≡ is_given_above l.doc.state l.command l.fn.node.label;
}

abbrev pub decreases-loop-parent : goal.decreases-loop-parent
decreases-loop-parent l = depth_of l.doc.state.trees l.at.label
