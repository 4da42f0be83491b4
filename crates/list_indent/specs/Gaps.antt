-- When outdenting a node ends at once, by what the node and its ancestors are, and which elements
-- have the host of their parent. No public clause cites this module.
use Rattle.std.specs.Prelude.{◌≡◌, ℕ, Bool, true, ◌&&◌, not, None}
use Rattle.std.specs.List.{list_any}
use Rattle.edit_model.specs.DomModel.declared.Content.{Content}
use Rattle.edit_model.specs.DomModel.Contents.{is_element}
use Rattle.edit_model.specs.DomModel.Editing.{contenteditable}
use Rattle.inline_value.specs.NodeStyles.NameClasses.{is_indentation}
use Rattle.edit_model.specs.State.{State}
use Rattle.inline_value.specs.Forcing.{ancestors}
use Rattle.list_indent.specs.Sublists.{is_list}

-- an indentation element is among the ancestors
unfoldable pub is_indented : State → ℕ → Bool
is_indented s n = list_any (is_indentation s.trees) (ancestors s.trees n)

-- one that no step changes: neither it nor an ancestor is an indentation element, and it is no list
unfoldable pub keeps_place : State → ℕ → Bool
keeps_place s n = not (is_indentation s.trees n) && (not (is_list s n) && not (is_indented s n))

-- an element without the attribute contenteditable
abbrev pub TakesHost : Content → Type 0
TakesHost c = (is_element c ≡ true) × (contenteditable c ≡ None)
