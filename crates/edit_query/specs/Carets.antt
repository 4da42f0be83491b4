-- Whether the selection is a caret.
use Rattle.std.specs.Prelude.{Bool, false, ◌==◌, ◌&&◌, Option, Some, None}
use Rattle.edit_model.specs.LiveRange.declared.places.Pair.{Pair}
use Rattle.edit_model.specs.State.{State}

-- both points are at one place
abbrev pub at_one_place : Option Pair → Bool
at_one_place None = false
at_one_place (Some pair) =
    (pair.anchor.label == pair.focus.label) && (pair.anchor.offset == pair.focus.offset)

unfoldable pub is_caret : State → Bool
is_caret s = at_one_place s.points.selection
