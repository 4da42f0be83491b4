-- What the delete command does at the start of an entry of a list, and of an indented line (HTML
-- Editing APIs, "the delete command", steps 6, 8 and 11). The steps are those of
-- docs/ALGORITHMS.md.
use Rattle.std.specs.Prelude.{ℕ, ◌==◌, Bool, false, ◌||◌, ◌&&◌, not, List, [], Option, Some, None, is_none, is_some, if◌then◌else◌}
use Rattle.std.specs.List.{list_any}
use Rattle.std.specs.Option.{option_map_or}
use Rattle.edit_model.specs.DomModel.declared.Content.{Content}
use Rattle.edit_model.specs.DomModel.Contents.{is_break}
use Rattle.edit_model.specs.DomModel.Forest.{Forest, parent_of, prev_of, first_of, last_of}
use Rattle.edit_model.specs.LiveRange.declared.places.Point.{Point}
use Rattle.inline_value.specs.NodeStyles.NameClasses.{is_indentation}
use Rattle.inline_value.specs.NodeTests.BlockPoints.{child_before, child_at}
use Rattle.edit_model.specs.State.{State}
use Rattle.edit_model.specs.Confined.{is_editable_for}
use Rattle.edit_model.specs.Run.{Run, ◌>>=◌, ◌>>◌, done, look, given, for_each}
use Rattle.inline_value.specs.WrapSplit.Wrap.{is_inline, append_break}
use Rattle.inline_value.specs.Ancestors.{split_out, fix_ancestors}
use Rattle.inline_value.specs.Forcing.{ancestors}
use Rattle.inline_value.specs.BlockExtend.BlockExtend.{block_extend}
use Rattle.inline_value.specs.BlockExtend.Gather.{gathered}
use Rattle.list_indent.specs.Sublists.{normalize_sublists}
use Rattle.list_indent.specs.Commands.{items_over, has_editable_below}
use Rattle.list_indent.specs.Outdenting.{outdent_node}
use Rattle.text_insertion.specs.Entries.{is_entry, rename_stray}

-- ---- delete, step 6: an entry leaves its list

-- the point is the start of an entry that is the first child of its parent
unfoldable pub starts_entry : State → Point → Bool
starts_entry s p =
    (p.offset == 0)
    && (is_entry s p.label
    && (is_some (parent_of s.trees p.label) && is_none (prev_of s.trees p.label)))

-- the items among its ancestors, in tree order
abbrev pub items_from : Forest Content → Option ℕ → List ℕ
items_from f None = []
items_from f (Some p) = items_over f p

-- their sublists are normalized, and the entry n leaves its list
unfoldable pub lift_entry : ℕ → Run (Unit {0})
lift_entry n = do
  look λ s. for_each (items_from s.trees (parent_of s.trees n)) normalize_sublists
  split_out n
  kept ← rename_stray n
  fix_ancestors kept

-- ---- delete, step 8: an indented line is outdented

unfoldable pub indents_line : State → ℕ → Bool
indents_line s n = is_editable_for s n && is_indentation s.trees n

-- an ancestor indents the node
unfoldable pub has_indenter : State → ℕ → Bool
has_indenter s n = list_any (indents_line s) (ancestors s.trees n)

unfoldable pub is_indented : State → ℕ → Bool
is_indented s n = indents_line s n || has_indenter s n

-- the point is the start of a node that is an indentation element or stands in one
unfoldable pub starts_indented : State → Point → Bool
starts_indented s p = (p.offset == 0) && is_indented s p.label

unfoldable pub is_bare : State → ℕ → Bool
is_bare s n = is_editable_for s n && not (has_editable_below s n)

abbrev pub bare_in : State → Point × Point → List ℕ
bare_in s range = gathered (is_bare s) s.trees range.0 range.1

-- the editable nodes of the line that have no editable descendants
unfoldable pub bare_nodes : State → Point → List ℕ
bare_nodes s p = bare_in s (block_extend s.trees p p)

-- each of them is outdented
unfoldable pub outdent_line : Point → Run (Unit {0})
outdent_line p = look λ s. for_each (bare_nodes s p) outdent_node

-- ---- delete, step 11: the line that the child before an entry ends with is closed, and an empty
-- one is put after it

-- at the child at the point, which begins with a line of its own
unfoldable pub opens_entry : State → Point → Bool
opens_entry s p =
    not (p.offset == 0)
    && option_map_or (λ k. is_entry s k && is_inline s (first_of s.trees k))
    (child_at s.trees p.label p.offset) false

abbrev pub is_open_line : State → Option ℕ → Bool
is_open_line s z = is_inline s z && option_map_or (λ l. not (is_break s.trees l)) z false

-- in what stands before the entry: a new br where it ends with an inline node that is no br, and
-- then another one where it ends with an inline node
unfoldable pub part_entry : ℕ → Run (Unit {0})
part_entry k = do
  look λ s. if is_open_line s (last_of s.trees k) then append_break k else done
  look λ s. if is_inline s (last_of s.trees k) then append_break k else done

-- step 11
unfoldable pub part_entries : Point → Run (Unit {0})
part_entries p = look λ s. if opens_entry s p
    then given (child_before s.trees p.label p.offset) done part_entry else done
