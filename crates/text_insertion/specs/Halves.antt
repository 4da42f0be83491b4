-- Parting a single-line container in two (HTML Editing APIs, "the insertParagraph command", steps 7
-- to 9). The steps are those of docs/ALGORITHMS.md.
use Rattle.std.specs.Prelude.{ℕ, ◌==◌, Bool, true, false, ◌&&◌, not, List, [], ◌∷◌, codes, Option, Some, None, if◌then◌else◌}
use Rattle.std.specs.Option.{option_map_or}
use Rattle.edit_model.specs.DomModel.AttributeList.{unset_in}
use Rattle.edit_model.specs.DomModel.declared.Content.{Content}
use Rattle.edit_model.specs.DomModel.Contents.{has_name, is_break, length_of, name_of}
use Rattle.edit_model.specs.DomModel.Forest.{Forest, last_of}
use Rattle.edit_model.specs.HtmlNames.ElementNames as names
use Rattle.edit_model.specs.LiveRange.declared.places.Point.{Point}
use Rattle.edit_model.specs.State.{State}
use Rattle.edit_model.specs.Compositions.{tag_of, attribute_list_of}
use Rattle.edit_model.specs.Moves.{insert_after}
use Rattle.edit_model.specs.Run.{Run, ◌>>=◌, ◌>>◌, done, look, given, make_element, collapse, extract_tail}
use Rattle.inline_value.specs.EditQuery.Leaves.{nodes_in}
use Rattle.inline_value.specs.EditQuery.Rows.{container_name}
use Rattle.inline_value.specs.Ancestors.{is_prohibited}
use Rattle.inline_value.specs.WrapSplit.Walks.{walk, turn_bound}
use Rattle.inline_value.specs.WrapSplit.Wrap.{append_break}
use Rattle.delete_core.specs.Erasing.{shows_child}
use Rattle.delete_core.specs.Places.{start_in, end_in, before_node, after_node, walk_points}
use Rattle.text_insertion.specs.Start.{active_start}

-- ---- insert a paragraph, step 7: out of the nodes that the point starts, and then of those that
-- it ends, up to a prohibited paragraph child

unfoldable pub leave_start : State → Point → Option Point
leave_start s p =
    if (p.offset == 0) && not (is_prohibited s p.label) then before_node s.trees p.label else None

unfoldable pub leave_end : State → Point → Option Point
leave_end s p =
    if (p.offset == length_of s.trees p.label) && not (is_prohibited s p.label) then
    after_node s.trees p.label
    else None

unfoldable pub outer_start : State → Point → Point
outer_start s p = walk_points (leave_start s) (turn_bound s) p

unfoldable pub outer_end : State → Point → Point
outer_end s p = walk_points (leave_end s) (turn_bound s) p

-- step 7
unfoldable pub parting_point : State → Point → Point
parting_point s p = outer_end s (outer_start s p)

-- ---- insert a paragraph, step 8: a second container after c, with what stands in c from q on

abbrev pub is_break_alone : Forest Content → List ℕ → Bool
is_break_alone f [] = true
is_break_alone f (x ∷ []) = is_break f x
is_break_alone f (x ∷ y ∷ rest) = false

-- step 8: nothing, or a br alone, stands in c from q on
unfoldable pub ends_line : State → Point → ℕ → Bool
ends_line s q c = is_break_alone s.trees (nodes_in s.trees (q, end_in s.trees c))

unfoldable pub is_heading_at : State → ℕ → Bool
is_heading_at s c = option_map_or names.is_heading (name_of s.trees c) false

-- step 8: after a whole heading comes a plain container, after a whole dt a dd, and after a whole
-- dd a dt
unfoldable pub name_after : State → ℕ → List ℕ
name_after s c =
    if is_heading_at s c then container_name s.flags.paragraphs
    else (if has_name s.trees c (codes "dt") then codes "dd"
    else (if has_name s.trees c (codes "dd") then codes "dt" else tag_of s.trees c))

unfoldable pub second_name : State → Point → ℕ → List ℕ
second_name s q c = if ends_line s q c then name_after s c else tag_of s.trees c

-- step 8: it has the attributes of c, but for the id
unfoldable pub make_second : Point → ℕ → Run ℕ
make_second q c =
    look λ s. make_element (second_name s q c) (unset_in (attribute_list_of s.trees c) (codes "id"))

-- ---- insert a paragraph, step 9: both get a line, with the caret at the start of the second one

abbrev pub if_prohibited : State → Option ℕ → Option ℕ
if_prohibited s None = None
if_prohibited s (Some l) = if is_prohibited s l then Some l else None

-- step 9: down by last children, as long as they are prohibited paragraph children
unfoldable pub into_last_block : State → ℕ → Option ℕ
into_last_block s l = if_prohibited s (last_of s.trees l)

-- insert a paragraph, step 9: as far down as it goes
unfoldable pub deepest_last : State → ℕ → ℕ
deepest_last s l = walk (into_last_block s) (turn_bound s) l

-- insert a paragraph, step 9: a new br where no child of c is visible
unfoldable pub fill_hidden : ℕ → Run (Unit {0})
fill_hidden c = look λ s. if shows_child s.trees c then done else append_break c

-- step 9: a line for c and one for d, at their ends, and then the caret
unfoldable pub close_both : ℕ → ℕ → Run (Unit {0})
close_both c d = look λ s. do
  fill_hidden (deepest_last s c)
  fill_hidden (deepest_last s d)
  collapse (start_in (deepest_last s d))

-- steps 8 and 9
unfoldable pub part_at : Point → ℕ → Run (Unit {0})
part_at q c = do
  d ← make_second q c
  insert_after c d
  extract_tail q c d
  close_both c d

-- steps 7 to 9
unfoldable pub part_container : ℕ → Run (Unit {0})
part_container c = look λ s. given (active_start s) done λ p. part_at (parting_point s p) c
