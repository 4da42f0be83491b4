-- The states of the attribute contenteditable, and the nodes that take the host that their parent
-- offers.
use Rattle.std.specs.Prelude.{Bool, true, false, not, ◌&&◌, ◌||◌, if◌then◌else◌}
use Rattle.dom_model.specs.declared.Content.{Content}
use Rattle.dom_model.specs.Contents.{is_element}
use Rattle.dom_model.specs.Editing.{is_true_state, is_false_state}
use Rattle.node_arena.specs.declared.hosts.EditableState.{EditableState}
use Rattle.node_arena.specs.declared.hosts.EditableState.TheVariants.{True, False, Inherit}

unfoldable pub editable_state_of : Content → EditableState
editable_state_of c =
    if is_true_state c then True else (if is_false_state c then False else Inherit)

unfoldable pub is_true : EditableState → Bool
is_true True = true
is_true _ = false

-- a node that has no state of its own, where it or its parent is an element
abbrev pub takes : Content → Content → Bool
takes c above = not (is_true_state c || is_false_state c) && (is_element c || is_element above)
