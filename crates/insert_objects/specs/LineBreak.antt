-- The insertLineBreak command (HTML Editing APIs, "the insertLineBreak command"). The steps are
-- those of docs/ALGORITHMS.md. It answers true.
use Rattle.std.specs.Prelude.{ℕ, Bool, false, true, ◌||◌, [], codes, if◌then◌else◌}
use Rattle.std.specs.Option.{option_map_or}
use Rattle.edit_model.specs.DomModel.Contents.{is_element_at}
use Rattle.edit_model.specs.DomModel.Forest.{parent_of}
use Rattle.edit_model.specs.LiveRange.declared.places.Point.{Point}
use Rattle.inline_value.specs.NodeStyles.Allowed.{name_allowed_in}
use Rattle.inline_value.specs.NodeTests.SolidNeighbours.{is_extraneous_break, is_collapsed_break}
use Rattle.edit_model.specs.State.{State}
use Rattle.edit_model.specs.Moves.{make_break}
use Rattle.edit_model.specs.Run.{Run, ◌>>=◌, ◌>>◌, answer, done, look}
use Rattle.delete_core.specs.declared.deletion.TheConstants.Manner.{KEEP_WRAPPERS}
use Rattle.text_insertion.specs.Start.{insert_at_start, erase}
use Rattle.insert_objects.specs.Putting.{from_start_inside, collapse_after, put}

-- step 2: a br may stand in an element, and beside what is none
unfoldable pub takes_break : State → ℕ → Bool
takes_break s n =
    if is_element_at s.trees n then name_allowed_in (codes "br") s.trees n
    else option_map_or (name_allowed_in (codes "br") s.trees) (parent_of s.trees n) false

-- step 4: a br that shows no line of its own is followed by another one
unfoldable pub repeat_break : ℕ → Run (Unit {0})
repeat_break n = look λ s.
    if is_extraneous_break s.trees n || is_collapsed_break s.trees n
    then (make_break >>= insert_at_start) else done

-- steps 3 and 4
unfoldable pub put_break : Run Bool
put_break = do
  n ← put (codes "br") []
  collapse_after n
  repeat_break n
  answer true

-- step 2, and then 3 and 4
unfoldable pub break_line : Point → Run Bool
break_line p = look λ s. if takes_break s p.label then put_break else answer true

-- step 1, and then from 2 on
unfoldable pub insert_line_break : Run Bool
insert_line_break = erase KEEP_WRAPPERS >> from_start_inside break_line
