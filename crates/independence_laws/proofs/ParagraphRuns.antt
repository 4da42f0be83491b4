-- Inserting a paragraph ignores marks and the cap.
use Rattle.std.proofs.Common.{◌≡◌, ℕ, zero, suc, [], ◌∷◌, refl}
use Rattle.edit_model.specs.DomModel.Forest.{next_of}
use Rattle.edit_model.specs.LiveRange.declared.places.Point.{Point}
use Rattle.edit_model.specs.Confined.{is_inside, is_editable_for}
use Rattle.edit_model.specs.State.{State}
use Rattle.inline_value.specs.WrapSplit.Breaks.{last_below}
use Rattle.inline_value.specs.WrapSplit.Wrap.{list_on}
use Rattle.inline_value.specs.Ancestors.{is_description, has_place, is_prohibited}
use Rattle.text_insertion.specs.Start.{insert_at, insert_at_start, active_start, erase, start_inside}
use Rattle.text_insertion.specs.Entries.{rename_stray, is_stray, leave_list, is_empty_entry, is_entry, has_sole_break}
use Rattle.text_insertion.specs.Containers.{make_container, insert_container, add_container, takes_container, wrap_line, contents_from, make_line, first_content, is_line_content, own_container, is_own_container, container_of, entry_over, is_plain_block, nearest_entry, up_to_entry, nearest_container, up_to_container, if_paragraph_child, contents_after}
use Rattle.text_insertion.specs.Halves.{make_second, second_name, ends_line, name_after, is_heading_at, fill_hidden, close_both, deepest_last, into_last_block, part_at, part_container, parting_point, outer_end, leave_end, outer_start, leave_start}
use Rattle.text_insertion.specs.Paragraph.{leave_text, split_text, break_line, part_line, holds_lines, part_paragraph, insert_paragraph_inside, insert_paragraph}
use Rattle.independence_laws.proofs.DeletionRuns.{ignores_delete_selection}
use Rattle.independence_laws.proofs.InlineRuns.{ignores_restore_states}
use Rattle.independence_laws.proofs.MoveRuns.{ignores_set_tag_name, ignores_insert_after, ignores_split_words, ignores_make_break}
use Rattle.independence_laws.proofs.SplitRuns.{ignores_split_parent}
use Rattle.independence_laws.proofs.MergingRuns.{ignores_fill_empty}
use Rattle.independence_laws.proofs.SelectionRuns.{ignores_fix_ancestors}
use Rattle.independence_laws.proofs.WrapRuns.{ignores_append_break, ignores_wrap}
use Rattle.independence_laws.proofs.IgnoringRuns.{ignores_look, ignoring_parts}
use Rattle.independence_laws.specs.Unmarked.{unmarked}
use Rattle.independence_laws.specs.Ignoring.{IgnoresMarks}

contents_after_at : (s : State) (n z : ℕ) → contents_after (unmarked s) n z ≡ contents_after s n z
unfolding contents_after
contents_after_at s zero z = refl
contents_after_at s (suc n) z = λ i. list_on (if_paragraph_child s (next_of s.trees z)) [] (λ q. q ∷ contents_after_at s n q i)

contents_after_same : (s : State) → contents_after (unmarked s) ≡ contents_after s
contents_after_same s = λ i n z. contents_after_at s n z i

-- ---- the start of the active range

ignores_insert_at : (x : ℕ) (p : Point) → IgnoresMarks (insert_at x p)
unfolding insert_at
ignores_insert_at x p = search ignoring_parts

pub ignores_insert_at_start : (x : ℕ) → IgnoresMarks (insert_at_start x)
unfolding insert_at_start active_start
ignores_insert_at_start x = search (ignoring_parts, ignores_insert_at)

pub ignores_erase : (m : _) → IgnoresMarks (erase m)
unfolding erase
ignores_erase m = search (ignoring_parts, ignores_delete_selection, ignores_restore_states)

-- ---- entries of lists

pub ignores_rename_stray : (n : ℕ) → IgnoresMarks (rename_stray n)
unfolding rename_stray is_stray is_description has_place is_inside is_editable_for
ignores_rename_stray n = search (ignoring_parts, ignores_set_tag_name)

ignores_leave_list : (c : ℕ) → IgnoresMarks (leave_list c)
unfolding leave_list
ignores_leave_list c = search (ignoring_parts, ignores_split_parent, ignores_fill_empty, ignores_rename_stray, ignores_fix_ancestors)

-- ---- containers

ignores_make_container : IgnoresMarks make_container
unfolding make_container
ignores_make_container = search (ignoring_parts, ignores_append_break)

ignores_insert_container : IgnoresMarks insert_container
unfolding insert_container
ignores_insert_container = search (ignoring_parts, ignores_make_container, ignores_insert_at_start)

ignores_add_container : IgnoresMarks add_container
unfolding add_container takes_container active_start
ignores_add_container = search (ignoring_parts, ignores_insert_container)

ignores_wrap_line : (k : ℕ) → IgnoresMarks (wrap_line k)
unfolding wrap_line contents_from
ignores_wrap_line k = ignores_look _ (λ s. rw (contents_after_same s)) (λ s. search (ignoring_parts, ignores_wrap))

ignores_make_line : IgnoresMarks make_line
unfolding make_line first_content is_line_content is_editable_for
ignores_make_line = search (ignoring_parts, ignores_add_container, ignores_wrap_line)

ignores_own_container : (c : ℕ) → IgnoresMarks (own_container c)
unfolding own_container is_own_container is_editable_for
ignores_own_container c = search (ignoring_parts, ignores_make_line)

-- ---- the two halves

ignores_make_second : (q : Point) (c : ℕ) → IgnoresMarks (make_second q c)
unfolding make_second second_name ends_line name_after is_heading_at
ignores_make_second q c = search ignoring_parts

ignores_fill_hidden : (c : ℕ) → IgnoresMarks (fill_hidden c)
unfolding fill_hidden
ignores_fill_hidden c = search (ignoring_parts, ignores_append_break)

ignores_close_both : (c d : ℕ) → IgnoresMarks (close_both c d)
unfolding close_both deepest_last into_last_block is_prohibited
ignores_close_both c d = search (ignoring_parts, ignores_fill_hidden)

ignores_part_at : (q : Point) (c : ℕ) → IgnoresMarks (part_at q c)
unfolding part_at
ignores_part_at q c = search (ignoring_parts, ignores_make_second, ignores_insert_after, ignores_close_both)

ignores_part_container : (c : ℕ) → IgnoresMarks (part_container c)
unfolding part_container active_start parting_point outer_end leave_end is_prohibited outer_start leave_start
ignores_part_container c = search (ignoring_parts, ignores_part_at)

-- ---- the command

ignores_leave_text : (p : Point) → IgnoresMarks (leave_text p)
unfolding leave_text
ignores_leave_text p = search ignoring_parts

ignores_split_text : (p : Point) → IgnoresMarks (split_text p)
unfolding split_text
ignores_split_text p = search (ignoring_parts, ignores_split_words, ignores_leave_text)

ignores_break_line : (p : Point) (c : ℕ) → IgnoresMarks (break_line p c)
unfolding break_line last_below
ignores_break_line p c = search (ignoring_parts, ignores_make_break, ignores_insert_at_start) depth 8

ignores_part_line : (p : Point) (c : ℕ) → IgnoresMarks (part_line p c)
unfolding part_line holds_lines is_empty_entry is_entry is_description has_sole_break
ignores_part_line p c = search (ignoring_parts, ignores_break_line, ignores_leave_list, ignores_part_container)

ignores_part_paragraph : (p : Point) → IgnoresMarks (part_paragraph p)
unfolding part_paragraph container_of entry_over is_plain_block is_editable_for is_entry is_description nearest_entry up_to_entry nearest_container up_to_container
ignores_part_paragraph p = search (ignoring_parts, ignores_own_container, ignores_part_line)

ignores_insert_paragraph_inside : IgnoresMarks insert_paragraph_inside
unfolding insert_paragraph_inside start_inside is_inside is_editable_for active_start
ignores_insert_paragraph_inside = search (ignoring_parts, ignores_split_text, ignores_part_paragraph)

pub ignores_insert_paragraph : IgnoresMarks insert_paragraph
unfolding insert_paragraph
ignores_insert_paragraph = search (ignoring_parts, ignores_erase, ignores_insert_paragraph_inside)
