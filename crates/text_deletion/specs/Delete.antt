-- The delete command (HTML Editing APIs, "the delete command"): what is selected goes, or at a
-- caret what stands before it. The steps are those of docs/ALGORITHMS.md. It answers true.
use Rattle.std.specs.Prelude.{ℕ, ◌-◌, ◌==◌, Bool, true, false, ◌||◌, ◌&&◌, not, codes, Option, Some, None, if◌then◌else◌}
use Rattle.std.specs.Option.{option_map, option_map_or}
use Rattle.edit_model.specs.DomModel.Contents.{has_name, is_break, is_image}
use Rattle.edit_model.specs.DomModel.Forest.{prev_of}
use Rattle.edit_model.specs.LiveRange.declared.places.Point.{Point}
use Rattle.inline_value.specs.NodeStyles.Blocks.{is_block}
use Rattle.inline_value.specs.NodeTests.BlockPoints.{child_before, child_at}
use Rattle.inline_value.specs.NodeTests.CollapsedWhitespace.{is_words}
use Rattle.edit_model.specs.State.{State}
use Rattle.edit_model.specs.Run.{Run, ◌>>=◌, ◌>>◌, answer, done, look, given, select, collapse, extend, set_scratch}
use Rattle.inline_value.specs.EditActions.ActiveRange.{start_of}
use Rattle.inline_value.specs.EditQuery.Carets.{is_caret}
use Rattle.inline_value.specs.WrapSplit.Walks.{turn_bound}
use Rattle.delete_core.specs.declared.deletion.TheConstants.Manner.{DEFAULT, BACKWARD}
use Rattle.delete_core.specs.Ends.{canonicalize_start}
use Rattle.delete_core.specs.Places.{at, start_in, end_in, walk_points}
use Rattle.text_deletion.specs.Approach.{is_affected_host, go_back, climb}
use Rattle.text_insertion.specs.Entries.{is_entry}
use Rattle.text_insertion.specs.Start.{erase}
use Rattle.text_deletion.specs.Entries.{starts_entry, lift_entry, starts_indented, outdent_line, part_entries}

-- just before what stands before a point
abbrev pub one_before : Point → Point
one_before p = at p.label (p.offset - 1)

-- ---- step 4: a character, and in a block a br, hr or img

unfoldable pub follows_single : State → Point → Bool
follows_single s p =
    (is_words s.trees p.label && not (p.offset == 0))
    || (is_block s.trees p.label
    && option_map_or
    (λ k. is_break s.trees k || (has_name s.trees k (codes "hr") || is_image s.trees k))
    (child_before s.trees p.label p.offset) false)

unfoldable pub erase_single : Point → Run (Unit {0})
erase_single p = do
  collapse p
  extend (one_before p)
  erase DEFAULT

-- ---- step 9: a table

abbrev pub is_table : State → Option ℕ → Bool
is_table s None = false
is_table s (Some k) = has_name s.trees k (codes "table")

-- nothing stands before the point in the host, or it is the start of a table
unfoldable pub is_kept_from : State → Point → Bool
is_kept_from s q = (is_affected_host s q.label && (q.offset == 0))
    || is_table s (child_at s.trees q.label q.offset)

unfoldable pub follows_table : State → Point → Bool
follows_table s q = is_table s (child_before s.trees q.label q.offset)

-- ---- step 10: a rule, or an empty line

-- a br after another one or after a block
unfoldable pub is_empty_line : State → ℕ → Bool
is_empty_line s k =
    is_break s.trees k
    && option_map_or (λ r. is_break s.trees r || is_block s.trees r) (prev_of s.trees k) false

unfoldable pub follows_line : State → Point → Point → Bool
follows_line s p q =
    (p.offset == 0)
    && option_map_or (λ k. has_name s.trees k (codes "hr") || is_empty_line s k)
    (child_before s.trees q.label q.offset) false

-- the caret's point is kept while what stands before is erased, and goes along with the edits
unfoldable pub erase_line : Point → Point → Run (Unit {0})
erase_line p q = do
  set_scratch (record { anchor = p; focus = p })
  select (one_before q) q
  erase DEFAULT
  look λ s. given s.points.scratch done λ pair. collapse pair.anchor

-- ---- step 12: from where to where what stands before is joined

-- down to the end of what stands before
unfoldable pub into_last : State → Point → Option Point
into_last s q = option_map (end_in s.trees) (child_before s.trees q.label q.offset)

-- as far down as it goes
unfoldable pub deepest_before : State → Point → Point
deepest_before s q = walk_points (into_last s) (turn_bound s) q

-- from the end of one entry to the start of the next, or else as said
abbrev pub between_entries : State → Option ℕ → Option ℕ → Point × Point → Point × Point
between_entries s (Some j) (Some k) other =
    if is_entry s j && is_entry s k then (end_in s.trees j, start_in k) else other
between_entries s _ _ other = other

unfoldable pub joined : State → Point → Point → Point × Point
joined s p q =
    between_entries s (child_before s.trees q.label q.offset) (child_at s.trees q.label q.offset)
    (deepest_before s q, p)

-- ---- the whole

-- steps 11 to 13
unfoldable pub join : Point → Point → Run (Unit {0})
join p q = do
  part_entries q
  look λ s. select (joined s p q).0 (joined s p q).1
  erase BACKWARD

-- steps 7 to 13, with the caret at p
unfoldable pub delete_across : Point → Run (Unit {0})
delete_across p = climb p >>= λ a. look λ s.
    if starts_indented s p then outdent_line p
    else (if is_kept_from s a.at then done
    else (if follows_table s a.at then select (one_before a.at) a.at
    else (if follows_line s p a.at then erase_line p a.at
    else join p a.at)))

-- steps 3 to 13, from p, the start of the active range
unfoldable pub delete_from : Point → Run (Unit {0})
delete_from p = go_back p >>= λ a. look λ s.
    if a.unlinked then done
    else (if follows_single s a.at then erase_single a.at
    else (if not (is_block s.trees a.at.label) then done
    else (if starts_entry s a.at then lift_entry a.at.label
    else delete_across a.at)))

-- steps 2 to 13
unfoldable pub delete_at_caret : Run (Unit {0})
delete_at_caret = do
  canonicalize_start true
  look λ s. given s.points.selection done λ pair. delete_from (start_of s.trees pair)

-- step 1, or from 2 on
unfoldable pub delete : Run Bool
delete = look λ s. (if is_caret s then delete_at_caret else erase DEFAULT) >> answer true
