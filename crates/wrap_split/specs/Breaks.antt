-- Removing line breaks (HTML Editing APIs, "remove extraneous line breaks before", "at the end of"
-- and "from" a node). The steps are those of docs/ALGORITHMS.md.
use Rattle.std.specs.Prelude.{ℕ, ◌&&◌, not, Option, Some, None, if◌then◌else◌}
use Rattle.edit_model.specs.DomModel.Forest.{is_label, parent_of, prev_of, last_of}
use Rattle.edit_actions.specs.NodeTests.SolidNeighbours.{is_extraneous_break}
use Rattle.edit_model.specs.State.{State}
use Rattle.edit_model.specs.Confined.{is_editable_for}
use Rattle.edit_model.specs.Run.{Run, ◌>>◌, done, look, given, remove}
use Rattle.wrap_split.specs.Walks.{turn_bound, walk, preceding, is_invisible}

-- remove line breaks before, step 2, and at the end, step 1: down from a node by last children
unfoldable pub last_below : State → ℕ → ℕ
last_below s r = walk (last_of s.trees) (turn_bound s) r

-- remove line breaks before, step 3, and at the end, step 2: back in tree order, from a node that
-- is invisible, no extraneous line break, and not where to stop
unfoldable pub back_step : State → Option ℕ → ℕ → Option ℕ
back_step s stop r =
    if is_invisible s r && (not (is_extraneous_break s.trees r) && not (is_label stop r)) then
    preceding s.trees r
    else None

-- remove line breaks before, step 3, and at the end, step 2: as long as such a node is come to
unfoldable pub back : State → Option ℕ → ℕ → ℕ
back s stop r = walk (back_step s stop) (turn_bound s) r

abbrev pub if_hidden_own : State → Option ℕ → Option ℕ
if_hidden_own s None = None
if_hidden_own s (Some p) = if is_editable_for s p && is_invisible s p then Some p else None

-- remove line breaks at the end, step 4: up from a node whose parent is editable and invisible
unfoldable pub up_step : State → ℕ → Option ℕ
up_step s r = if_hidden_own s (parent_of s.trees r)

-- remove line breaks at the end, step 4
unfoldable pub top_hidden : State → ℕ → ℕ
top_hidden s r = walk (up_step s) (turn_bound s) r

-- where the line breaks before n would stand, from the sibling p before it on back
abbrev pub last_break_before : State → ℕ → ℕ → ℕ
last_break_before s n p = back s (parent_of s.trees n) (last_below s p)

-- remove line breaks at the end, steps 1 and 2: where the line break at the end of n would stand
abbrev pub break_at_end : State → ℕ → ℕ
break_at_end s n = back s (Some n) (last_below s n)

-- remove line breaks before, steps 1 to 4
unfoldable pub breaks_before : ℕ → Run (Unit {0})
breaks_before n = look λ s. given (prev_of s.trees n) done λ p.
    if is_editable_for s (last_break_before s n p)
    && is_extraneous_break s.trees (last_break_before s n p)
    then remove (last_break_before s n p) >> done
    else done

-- remove line breaks at the end, steps 1 to 5
unfoldable pub breaks_at_end : ℕ → Run (Unit {0})
breaks_at_end n = look λ s.
    if is_editable_for s (break_at_end s n) && is_extraneous_break s.trees (break_at_end s n)
    then remove (top_hidden s (break_at_end s n)) >> done
    else done

-- remove line breaks from, steps 1 and 2
unfoldable pub breaks_from : ℕ → Run (Unit {0})
breaks_from n = breaks_before n >> breaks_at_end n
