-- When taking a line out of its parents ends early, by what the parent of the line is. No public
-- clause cites this module.
use Rattle.std.specs.Prelude.{ℕ, Bool, false, ◌||◌, not, is_none}
use Rattle.std.specs.Option.{option_map_or}
use Rattle.edit_model.specs.DomModel.Forest.{parent_of}
use Rattle.edit_model.specs.State.{State}
use Rattle.edit_model.specs.Confined.{is_editable_for}
use Rattle.inline_value.specs.WrapSplit.Split.{is_void_thing}

-- splitting the parent of a line that begins with k changes nothing: the parent isn't editable, has
-- no parent, or is an image or a rule
unfoldable pub is_stuck : State → ℕ → Bool
is_stuck s k =
    option_map_or
    (λ p. not (is_editable_for s p) || (is_none (parent_of s.trees p) || is_void_thing s p))
    (parent_of s.trees k) false
