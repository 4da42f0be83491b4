-- Toggle lists, step 3: the lists of the other kind become lists of the kind, or go into one beside
-- them. The steps are those of docs/ALGORITHMS.md.
use Rattle.std.specs.Prelude.{ℕ, Bool, false, ◌&&◌, ◌||◌, List, Option, Some, None, if◌then◌else◌}
use Rattle.edit_model.specs.DomModel.Contents.{is_element_at}
use Rattle.edit_model.specs.DomModel.Forest.{prev_of, next_of, children_of, first_in}
use Rattle.edit_model.specs.State.{State}
use Rattle.edit_model.specs.Confined.{is_editable_for}
use Rattle.edit_model.specs.Compositions.{set_tag_name}
use Rattle.edit_model.specs.Run.{Run, ◌>>=◌, ◌>>◌, answer, done, look, given, for_each}
use Rattle.inline_value.specs.WrapSplit.declared.rule.Criterion.{Criterion}
use Rattle.inline_value.specs.WrapSplit.declared.rule.Criterion.TheVariants.{Named}
use Rattle.inline_value.specs.WrapSplit.declared.rule.Recipe.{Recipe}
use Rattle.inline_value.specs.WrapSplit.declared.rule.Recipe.TheVariants.{Nothing}
use Rattle.inline_value.specs.WrapSplit.Split.{split_parent}
use Rattle.inline_value.specs.WrapSplit.Wrap.{wrap}
use Rattle.inline_value.specs.Recording.{record_values, restore_values}
use Rattle.inline_value.specs.EditQuery.ListStates.{list_name, is_list_of}
use Rattle.list_toggle.specs.Ranges.{RangeEnds, extended_range, keep_range, kept_range, other_lists}

-- the criterion: an element of the kind
abbrev pub of_kind : Bool → Criterion
of_kind ordered = Named (list_name ordered) false

-- an editable one
abbrev pub is_fit : Bool → State → Option ℕ → Bool
is_fit ordered s None = false
is_fit ordered s (Some n) = is_editable_for s n && is_list_of ordered s.trees n

-- the previous or the next sibling of l is one
unfoldable pub is_beside_fit : Bool → State → ℕ → Bool
is_beside_fit ordered s l =
    is_fit ordered s (prev_of s.trees l) || is_fit ordered s (next_of s.trees l)

-- steps 3 and 6 c: siblings leave the list that they stand in for another one, and keep their values
unfoldable pub move_items : Criterion → Recipe → List ℕ → Run (Unit {0})
move_items criterion recipe items = do
  values ← record_values items
  split_parent items
  wrap criterion recipe items
  restore_values values

-- step 3, of one list of the other kind
unfoldable pub convert_list : Bool → ℕ → Run (Unit {0})
convert_list ordered l = look λ s.
    if is_beside_fit ordered s l
    then move_items (of_kind ordered) Nothing (children_of s.trees l)
    else (if is_element_at s.trees l then set_tag_name l (list_name ordered) >> done else done)

-- step 3, of all of them; the range is kept as points meanwhile, and its ends are then the answer.
-- Where there are no such lists, nothing moves them.
unfoldable pub convert_each : Bool → RangeEnds → List ℕ → Run RangeEnds
convert_each ordered range lists = given (first_in lists) (answer range) λ l. do
  keep_range range
  for_each lists (convert_list ordered)
  look λ s. answer (kept_range s)

-- steps 2 and 3
unfoldable pub convert_lists : Bool → Run RangeEnds
convert_lists ordered = look λ s.
    let range = extended_range s in convert_each ordered range (other_lists ordered s range)
