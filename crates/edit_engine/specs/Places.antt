-- Places: points by the path of their node, and by its label.
use Rattle.std.specs.Prelude.{◌≡◌, ℕ, nat_le, List, length, false, ◌&&◌, Option, Some, None, if◌then◌else◌}
use Rattle.std.specs.Option.{option_and_then, option_map}
use Rattle.edit_model.specs.DomModel.declared.Content.{Content}
use Rattle.edit_model.specs.DomModel.Contents.{length_of}
use Rattle.edit_model.specs.DomModel.Forest.{Forest}
use Rattle.edit_model.specs.LiveRange.LivePoints.{has_mark, with_mark, without_mark}
use Rattle.edit_model.specs.LiveRange.declared.places.Point.{Point}
use Rattle.edit_model.specs.LiveRange.declared.places.Pair.{Pair}
use Rattle.inline_value.specs.NodePaths.Paths.{label_at}
use Rattle.edit_model.specs.PointOrder.PointOrder.{is_placed}
use Rattle.step_text.specs.ScriptRead.declared.act.Place.{Place}
use Rattle.edit_model.specs.Action.{Select, Unselect, acted}
use Rattle.edit_engine.specs.Editing.{Editing, stopped_at}

abbrev pub point_in : Forest Content → ℕ → ℕ → Option Point
point_in f offset l =
    if nat_le offset (length_of f l) then Some (record { label = l; offset = offset }) else None

-- the point at a place; none where the path names no node, or the offset is past the node's length
unfoldable pub point_at : Forest Content → Place → Option Point
point_at f place = option_and_then (point_in f place.offset) (label_at f place.path)

abbrev pub pair_of : Option Point → Option Point → Option Pair
pair_of None focus = None
pair_of (Some anchor) focus = option_map (λ p. record { anchor = anchor; focus = p }) focus

unfoldable pub pair_at : Forest Content → Place → Place → Option Pair
pair_at f anchor focus = pair_of (point_at f anchor) (point_at f focus)

abbrev pub pair_from : Point → Point → Pair
pair_from anchor focus = record { anchor = anchor; focus = focus }

-- the pair of two points; none where one of them stands in no node of the document, or past its end
unfoldable pub placed_pair : Forest Content → Point → Point → Option Pair
placed_pair f anchor focus =
    if is_placed f anchor && is_placed f focus
    then Some (pair_from anchor focus) else None

-- where a command works that may be told a range: at the selection, or on that range if both its
-- points stand in the document
abbrev pub range_in : Forest Content → Option Pair → Option (Option Pair)
range_in f None = Some None
range_in f (Some range) = option_map Some (placed_pair f range.anchor range.focus)

-- ---- the editor after a selecting act, which ends the typing

abbrev pub selecting : Editing → Pair → Editing
selecting e pair = stopped_at e (acted (Select pair.anchor pair.focus) e.state)

abbrev pub unselecting : Editing → Editing
unselecting e = stopped_at e (acted Unselect e.state)

abbrev pub marking : Editing → List ℕ → Pair → Editing
marking e name pair = stopped_at e (record e.state { points = with_mark name pair e.state.points })

abbrev pub unmarking : Editing → List ℕ → Editing
unmarking e name = stopped_at e (record e.state { points = without_mark name e.state.points })

-- 16 other marks are there
pub record IsCrowded (e : Editing) (name : List ℕ) : Type 0 where
  pub full : length e.state.points.marks ≡ 16
  pub new : has_mark name e.state.points ≡ false
