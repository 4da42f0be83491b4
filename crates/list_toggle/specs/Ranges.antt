-- Toggle lists, steps 2 to 4: the block-extended active range, and the lists and list members that
-- it contains. The steps are those of docs/ALGORITHMS.md. A kind of list is told by whether it is
-- ordered.
use Rattle.std.specs.Prelude.{ℕ, ◌<◌, Bool, not, ◌&&◌, List, [], filter, Option}
use Rattle.std.specs.Option.{option_map, option_map_or}
use Rattle.edit_model.specs.DomModel.declared.Content.{Content}
use Rattle.edit_model.specs.DomModel.Forest.{Forest, count_of}
use Rattle.edit_model.specs.LiveRange.declared.places.Pair.{Pair}
use Rattle.edit_model.specs.LiveRange.declared.places.Point.{Point}
use Rattle.block_commands.specs.Gathered.{contained_in}
use Rattle.edit_model.specs.State.{State}
use Rattle.edit_model.specs.Confined.{is_editable_for}
use Rattle.edit_model.specs.Run.{Run, done, given, set_scratch}
use Rattle.inline_value.specs.EditActions.ActiveRange.{start_of, end_of}
use Rattle.inline_value.specs.EditQuery.Gathered.{extended}
use Rattle.inline_value.specs.EditQuery.ListStates.{is_list_of, members_in}
use Rattle.list_indent.specs.Sublists.{is_list, is_in_list}

-- ---- the range: its ends, or nothing without a selection

abbrev pub RangeEnds : Type 0
RangeEnds = Option (Point × Point)

-- the ends stand at nodes that are there
abbrev pub AreThere : Forest Content → Point × Point → Type 0
AreThere f ends = (0 < count_of f ends.0.label) × (0 < count_of f ends.1.label)

-- step 2
unfoldable pub extended_range : State → RangeEnds
extended_range s = option_map (extended s.trees) s.points.selection

abbrev pub ends_in : Forest Content → Pair → Point × Point
ends_in f pair = (start_of f pair, end_of f pair)

abbrev pub pair_of : Point × Point → Pair
pair_of ends = record { anchor = ends.0; focus = ends.1 }

-- step 3: the ends become points that edits move, and what they then are
unfoldable pub keep_range : RangeEnds → Run (Unit {0})
keep_range range = given range done λ ends. set_scratch (pair_of ends)

unfoldable pub kept_range : State → RangeEnds
kept_range s = option_map (ends_in s.trees) s.points.scratch

-- ---- step 3: the editable elements of the other kind that the range contains

unfoldable pub is_other_list : Bool → State → ℕ → Bool
is_other_list ordered s l = is_editable_for s l && is_list_of (not ordered) s.trees l

unfoldable pub other_lists : Bool → State → RangeEnds → List ℕ
other_lists ordered s range =
    option_map_or (contained_in (is_other_list ordered s) s.trees) range []

-- ---- step 4: the list members of the range

unfoldable pub range_members : State → RangeEnds → List ℕ
range_members s range = option_map_or (members_in s.trees s.host) range []

-- where lists are not toggled off, without the lists that stand in no list
unfoldable pub is_line : State → ℕ → Bool
is_line s l = not (is_list s l && not (is_in_list s l))

unfoldable pub range_lines : State → RangeEnds → List ℕ
range_lines s range = filter (is_line s) (range_members s range)
