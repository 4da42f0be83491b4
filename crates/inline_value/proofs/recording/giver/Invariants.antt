use Rattle.std.proofs.Common.{◌≡◌}
use Rattle.edit_model.specs.DomModel.Forest.{depth_of}
use Rattle.wrap_split.specs.EditDoc.Held.{Holds}
use Rattle.inline_value.specs.Recording.{given_value}
use Rattle.inline_value.proofs.recording.giver.Given as goal

-- what is given where the walk has come is given at its begin
abbrev pub invariant-loop-command : goal.invariant-loop-command
invariant-loop-command l = record {
  held : Holds l.doc l.at;
  same : given_value l.doc.state.trees l.at.label l.command ≡ given_value l.doc.state.trees l.fn.node.label l.command;
}

abbrev pub decreases-loop-command : goal.decreases-loop-command
decreases-loop-command l = depth_of l.doc.state.trees l.at.label
