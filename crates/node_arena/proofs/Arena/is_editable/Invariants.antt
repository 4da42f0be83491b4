use Rattle.std.proofs.Common.{◌≡◌, Some}
use Rattle.std.specs.Option.{option_map}
use Rattle.dom_model.specs.Forest.{depth_of, content_of}
use Rattle.dom_model.specs.Editing.{is_editable}
use Rattle.node_arena.specs.Held.{Holds}
use Rattle.node_arena.specs.EditableStates.{editable_state_of}
use Rattle.node_arena.proofs.Arena.is_editable.Given as goal

abbrev pub invariant-loop-parent : goal.invariant-loop-parent
invariant-loop-parent l = record {
  held : Holds l.self l.at;
  own : option_map editable_state_of (content_of l.self.trees l.at.label) ≡ Some l.own;
  same : is_editable l.self.trees l.host.label l.at.label ≡ is_editable l.self.trees l.host.label l.fn.node.label;
}

abbrev pub decreases-loop-parent : goal.decreases-loop-parent
decreases-loop-parent l = depth_of l.self.trees l.at.label
