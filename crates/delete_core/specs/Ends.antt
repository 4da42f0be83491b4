-- The ends of what a deletion deletes (HTML Editing APIs, "delete the selection", steps 1 to 3),
-- and the caret that it leaves. The steps are those of docs/ALGORITHMS.md.
use Rattle.std.specs.Prelude.{ℕ, ◌==◌, Bool, ◌||◌, ◌&&◌, not, Option, Some, None, codes, unwrap_or, if◌then◌else◌}
use Rattle.edit_model.specs.DomModel.declared.Content.{Content}
use Rattle.edit_model.specs.DomModel.Contents.{has_name, length_of}
use Rattle.edit_model.specs.DomModel.Forest.{Forest, is_label, parent_of}
use Rattle.edit_model.specs.LiveRange.declared.places.Pair.{Pair}
use Rattle.edit_model.specs.LiveRange.declared.places.Point.{Point}
use Rattle.inline_value.specs.NodeStyles.Allowed.{name_allowed_in}
use Rattle.inline_value.specs.NodeStyles.Blocks.{is_block}
use Rattle.inline_value.specs.NodeTests.CollapsedWhitespace.{is_words}
use Rattle.edit_model.specs.State.{State}
use Rattle.edit_model.specs.Run.{Run, done, look, given, collapse}
use Rattle.inline_value.specs.EditActions.ActiveRange.{start_of, end_of}
use Rattle.inline_value.specs.WrapSplit.Walks.{walk, turn_bound}
use Rattle.delete_core.specs.Places.{before_node, after_node, if_inside}
use Rattle.delete_core.specs.Whitespace.{canonicalize}

-- the caret that is left: at the start of the active range, or at its end
abbrev pub end_for : Bool → Forest Content → Pair → Point
end_for backward f pair = if backward then end_of f pair else start_of f pair

-- delete the selection, steps 1, 5 and 9: the selection is collapsed
unfoldable pub collapse_selection : Bool → Run (Unit {0})
collapse_selection backward =
    look λ s. given s.points.selection done λ pair. collapse (end_for backward s.trees pair)

-- delete the selection, steps 1 and 8: the whitespace at the start and at the end of the active
-- range
unfoldable pub canonicalize_start : Bool → Run (Unit {0})
canonicalize_start fix =
    look λ s. given s.points.selection done λ pair. canonicalize fix (start_of s.trees pair)

-- delete the selection, steps 1 and 8: at the end of the active range
unfoldable pub canonicalize_end : Bool → Run (Unit {0})
canonicalize_end fix =
    look λ s. given s.points.selection done λ pair. canonicalize fix (end_of s.trees pair)

-- step 2: from the start of a text to before it, and from the end of a text to after it
unfoldable pub out_of_start : Forest Content → Point → Point
out_of_start f p =
    unwrap_or (if is_words f p.label && (p.offset == 0) then before_node f p.label else None) p

-- delete the selection, step 2: and from the end of a text to after it
unfoldable pub out_of_end : Forest Content → Point → Point
out_of_end f p =
    unwrap_or (if is_words f p.label && (p.offset == length_of f p.label) then after_node f p.label
    else None) p

-- step 3: up from an inline node, as long as the parent is inside
unfoldable pub up_inline : State → ℕ → Option ℕ
up_inline s l = if is_block s.trees l then None else if_inside s (parent_of s.trees l)

-- delete the selection, step 3: as far up as it goes
unfoldable pub top_inline : State → ℕ → ℕ
top_inline s l = walk (up_inline s) (turn_bound s) l

-- step 3: a cell of a table
unfoldable pub is_cell : Forest Content → ℕ → Bool
is_cell f l = has_name f l (codes "td") || has_name f l (codes "th")

-- step 3: a block, or the affected host, in which text may stand, and no cell of a table
unfoldable pub may_merge : State → ℕ → Bool
may_merge s l =
    (is_block s.trees l || is_label s.host l)
    && (name_allowed_in (codes "span") s.trees l && not (is_cell s.trees l))

abbrev pub if_mergeable : State → ℕ → Option ℕ
if_mergeable s l = if may_merge s l then Some l else None

-- step 3: the block that a deletion merges, of the node of an end
unfoldable pub block_of_end : State → ℕ → Option ℕ
block_of_end s l = if_mergeable s (top_inline s l)
