-- What a deletion removes (HTML Editing APIs, "delete the selection", steps 5 to 8). The steps are
-- those of docs/ALGORITHMS.md.
use Rattle.std.specs.Prelude.{ℕ, ◌-◌, ◌==◌, Bool, false, ◌||◌, ◌&&◌, not, List, [], Option, Some, None, codes, if◌then◌else◌}
use Rattle.std.specs.List.{list_any}
use Rattle.std.specs.Option.{option_map_or}
use Rattle.edit_model.specs.DomModel.declared.Content.{Content}
use Rattle.edit_model.specs.DomModel.Contents.{has_name, length_of}
use Rattle.edit_model.specs.DomModel.Forest.{Forest, parent_of, children_of}
use Rattle.edit_model.specs.LiveRange.declared.places.Pair.{Pair}
use Rattle.edit_model.specs.LiveRange.declared.places.Point.{Point}
use Rattle.inline_value.specs.NodeStyles.Blocks.{is_block, nearest_block}
use Rattle.inline_value.specs.NodeTests.CollapsedWhitespace.{is_words}
use Rattle.inline_value.specs.NodeTests.Visible.{is_visible}
use Rattle.edit_model.specs.PointOrder.PointOrder.{is_within}
use Rattle.edit_model.specs.State.{State}
use Rattle.edit_model.specs.Confined.{is_editable_for, is_inside}
use Rattle.edit_model.specs.Run.{Run, ◌>>=◌, ◌>>◌, answer, done, look, given, for_each, while_at_most, remove, replace}
use Rattle.inline_value.specs.EditActions.ActiveRange.{start_of, end_of}
use Rattle.inline_value.specs.BlockExtend.Gather.{gathered}
use Rattle.inline_value.specs.WrapSplit.Wrap.{append_break}
use Rattle.inline_value.specs.WrapSplit.Walks.{turn_bound}
use Rattle.delete_core.specs.Ends.{collapse_selection, is_cell}
use Rattle.delete_core.specs.Whitespace.{canonicalize}

-- an editable text
unfoldable pub is_own_text : State → ℕ → Bool
is_own_text s l = is_editable_for s l && is_words s.trees l

-- ---- delete the selection, step 5: both ends stand in one text
unfoldable pub erase_within : Bool → Point → Point → Run (Unit {0})
erase_within backward p q = do
  replace p.label p.offset (q.offset - p.offset) []
  canonicalize false p
  collapse_selection backward

-- ---- delete the selection, step 6, and step 8: the texts at the ends

-- delete the selection, step 6: a text loses its characters from the start on
unfoldable pub cut_after : Point → Run (Unit {0})
cut_after p = look λ s.
    if is_own_text s p.label then
    replace p.label p.offset (length_of s.trees p.label - p.offset) [] >> done else done

-- delete the selection, step 8: a text loses its characters before the end
unfoldable pub cut_before : Point → Run (Unit {0})
cut_before q =
    look λ s. if is_own_text s q.label then replace q.label 0 q.offset [] >> done else done

-- ---- delete the selection, step 7: the nodes between the ends

unfoldable pub is_table_part : Forest Content → ℕ → Bool
is_table_part f l =
    has_name f l (codes "thead") || has_name f l (codes "tbody") || has_name f l (codes "tfoot")
    || has_name f l (codes "tr") || is_cell f l

unfoldable pub is_removable : State → ℕ → Bool
is_removable s l = is_editable_for s l && not (is_table_part s.trees l)

-- the editable nodes of the active range that are no parts of a table, without what stands below
-- one of them
abbrev pub removable_between : State → Pair → List ℕ
removable_between s pair =
    gathered (is_removable s) s.trees (start_of s.trees pair) (end_of s.trees pair)

-- delete the selection, step 7: those of the active range
unfoldable pub removable_nodes : State → List ℕ
removable_nodes s = option_map_or (removable_between s) s.points.selection []

-- the nearest block of an element: itself, where it is one
unfoldable pub own_block : Forest Content → ℕ → Option ℕ
own_block f l = if is_block f l then Some l else nearest_block f l

unfoldable pub shows_child : Forest Content → ℕ → Bool
shows_child f l = list_any (is_visible f) (children_of f l)

-- its nearest block shows nothing
unfoldable pub is_hollow : Forest Content → ℕ → Bool
is_hollow f l = option_map_or (λ b. not (shows_child f b)) (own_block f l) false

-- delete the selection, step 7: a new br in p, where the nearest block shows nothing
unfoldable pub fill_hollow : ℕ → Run (Unit {0})
fill_hollow p = look λ s. if is_inside s p && is_hollow s.trees p then append_break p else done

-- delete the selection, steps 7 and 13: a node goes, and its former parent is looked at next
abbrev pub removed_up : Option ℕ → Run (Option ℕ)
removed_up None = answer None
removed_up (Some p) = look λ s. remove p >> answer (parent_of s.trees p)

abbrev pub is_strippable : State → Option ℕ → Bool
is_strippable s None = false
is_strippable s (Some p) =
    is_editable_for s p && (not (is_block s.trees p) && (length_of s.trees p == 0))

-- delete the selection, step 7: inline nodes that are left empty go, from p up
unfoldable pub strip_empty : ℕ → Run (Unit {0})
strip_empty p = look λ s. while_at_most (turn_bound s) is_strippable removed_up (Some p) >> done

-- delete the selection, step 7: where `strip` is off, those stay in which the start stands
unfoldable pub strip_from : Bool → ℕ → ℕ → Run (Unit {0})
strip_from strip start p =
    look λ s. if strip || not (is_within s.trees p start) then strip_empty p else done

-- delete the selection, step 7: one node, with its parent p
unfoldable pub remove_under : Bool → ℕ → ℕ → ℕ → Run (Unit {0})
remove_under strip start n p = do
  remove n
  fill_hollow p
  strip_from strip start p

-- delete the selection, step 7: one node
unfoldable pub remove_node : Bool → ℕ → ℕ → Run (Unit {0})
remove_node strip start n = look λ s. given (parent_of s.trees n) done (remove_under strip start n)

-- step 7
unfoldable pub remove_nodes : Bool → ℕ → Run (Unit {0})
remove_nodes strip start = look λ s. for_each (removable_nodes s) (remove_node strip start)
