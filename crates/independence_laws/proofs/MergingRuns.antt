-- Merging blocks after a deletion ignores marks and the cap.
use Rattle.std.proofs.Common.{◌≡◌, ℕ, Bool, List, Option, zero, suc, [], ◌∷◌, refl}
use Rattle.edit_model.specs.Confined.{is_editable_for, is_inside}
use Rattle.edit_model.specs.State.{State}
use Rattle.inline_value.specs.WrapSplit.Wrap.{list_on}
use Rattle.inline_value.specs.WrapSplit.Walks.{turn_bound}
use Rattle.inline_value.specs.Recording.{Recorded}
use Rattle.delete_core.specs.Merging.{drop_prop, drop_sole, part_lines, parts_lines, remove_own, drop_parted, drop_soles, is_sole, is_apart, drop_block, split_line, split_out, drop_break_before, take_out_line, line_from, take_line, merge_content, merge_inner, drop_last_break, take_following, line_at, merge_outer, drop_emptied, take_children, merge_beside, merged, join_lists_at, join_next, join_once, list_to_join, joins_next, join_lists, has_list_to_join, fill_empty, finish, finish_if, merge, merge_both, are_mergeable, merge_if, if_inline, next_in_line, line_after}
use Rattle.independence_laws.proofs.MoveRuns.{ignores_make_break, ignores_insert_after, ignores_move_each_last}
use Rattle.independence_laws.proofs.SplitRuns.{ignores_split_parent, ignores_breaks_at_end}
use Rattle.independence_laws.proofs.PushingRuns.{values_of_same, ignores_restore_values}
use Rattle.independence_laws.proofs.IgnoringRuns.{ignores_look, ignoring_parts}
use Rattle.independence_laws.proofs.ErasingRuns.{ignores_removed_up, ignores_collapse_selection}
use Rattle.independence_laws.proofs.WrapRuns.{ignores_append_break}
use Rattle.independence_laws.specs.Unmarked.{unmarked}
use Rattle.independence_laws.specs.Ignoring.{IgnoresMarks}

line_after_at : (s : State) (n z : ℕ) → line_after (unmarked s) n z ≡ line_after s n z
unfolding line_after
line_after_at s zero z = refl
line_after_at s (suc n) z = λ i. list_on (next_in_line s z) [] (λ q. q ∷ line_after_at s n q i)

line_after_same : (s : State) → line_after (unmarked s) ≡ line_after s
line_after_same s = λ i n z. line_after_at s n z i

line_at_same : (s : State) → line_at (unmarked s) ≡ line_at s
unfolding line_at line_from
line_at_same s = λ i o. list_on (if_inline s o) [] (λ k. k ∷ line_after_same s i (turn_bound s) k)

ignores_drop_prop : (b : ℕ) → IgnoresMarks (drop_prop b)
unfolding drop_prop
ignores_drop_prop b = search ignoring_parts

ignores_drop_sole : (c : ℕ) → IgnoresMarks (drop_sole c)
unfolding drop_sole
ignores_drop_sole c = search ignoring_parts

ignores_part_lines : (c : ℕ) → IgnoresMarks (part_lines c)
unfolding part_lines parts_lines is_editable_for
ignores_part_lines c = search (ignoring_parts, ignores_make_break, ignores_insert_after)

ignores_remove_own : (c : ℕ) → IgnoresMarks (remove_own c)
unfolding remove_own is_editable_for
ignores_remove_own c = search ignoring_parts

ignores_drop_parted : (c : ℕ) → IgnoresMarks (drop_parted c)
unfolding drop_parted
ignores_drop_parted c = search (ignoring_parts, ignores_part_lines, ignores_remove_own)

ignores_drop_soles : (b c : ℕ) → IgnoresMarks (drop_soles b c)
unfolding drop_soles is_sole is_editable_for is_apart
ignores_drop_soles b c = search (ignoring_parts, ignores_drop_sole)

ignores_drop_block : (b c : ℕ) → IgnoresMarks (drop_block b c)
unfolding drop_block
ignores_drop_block b c = search (ignoring_parts, ignores_drop_soles, ignores_drop_parted)

ignores_split_line : (list : List ℕ) (k : ℕ) → IgnoresMarks (split_line list k)
unfolding split_line
ignores_split_line list k = search (ignoring_parts, ignores_split_parent)

ignores_split_out : (b : ℕ) (list : List ℕ) (k : ℕ) → IgnoresMarks (split_out b list k)
unfolding split_out is_apart
ignores_split_out b list k = search (ignoring_parts, ignores_split_line)

ignores_drop_break_before : (k : ℕ) → IgnoresMarks (drop_break_before k)
unfolding drop_break_before is_editable_for
ignores_drop_break_before k = search ignoring_parts

ignores_take_out_line : (b k : ℕ) → IgnoresMarks (take_out_line b k)
unfolding take_out_line line_from
ignores_take_out_line b k = ignores_look _ (λ s. rw (line_after_same s, values_of_same s)) (λ s. search (ignoring_parts, ignores_split_out, ignores_drop_break_before))

ignores_take_line : (b k : ℕ) → IgnoresMarks (take_line b k)
unfolding take_line
ignores_take_line b k = search (ignoring_parts, ignores_take_out_line)

ignores_merge_content : (b c : ℕ) → IgnoresMarks (merge_content b c)
unfolding merge_content
ignores_merge_content b c = search (ignoring_parts, ignores_drop_block, ignores_take_line)

ignores_merge_inner : (b c : ℕ) → IgnoresMarks (merge_inner b c)
unfolding merge_inner
ignores_merge_inner b c = search (ignoring_parts, ignores_merge_content)

ignores_drop_last_break : (b : ℕ) (after : Option ℕ) → IgnoresMarks (drop_last_break b after)
unfolding drop_last_break
ignores_drop_last_break b after = search ignoring_parts

ignores_take_following : (b q : ℕ) → IgnoresMarks (take_following b q)
unfolding take_following line_from
ignores_take_following b q = ignores_look _ (λ s. rw (line_at_same s, values_of_same s)) (λ s. search (ignoring_parts, ignores_move_each_last))

ignores_merge_outer : (b c : ℕ) → IgnoresMarks (merge_outer b c)
unfolding merge_outer
ignores_merge_outer b c = search (ignoring_parts, ignores_drop_last_break, ignores_take_following)

ignores_drop_emptied : (c : ℕ) → IgnoresMarks (drop_emptied c)
unfolding drop_emptied is_editable_for
ignores_drop_emptied c = search (ignoring_parts, ignores_removed_up)

ignores_take_children : (b c : ℕ) → IgnoresMarks (take_children b c)
unfolding take_children
ignores_take_children b c = ignores_look _ (λ s. rw (values_of_same s)) (λ s. search (ignoring_parts, ignores_move_each_last, ignores_drop_emptied))

ignores_merge_beside : (b c : ℕ) → IgnoresMarks (merge_beside b c)
unfolding merge_beside
ignores_merge_beside b c = search (ignoring_parts, ignores_drop_last_break, ignores_take_children)

ignores_merged : (b c : ℕ) → IgnoresMarks (merged b c)
unfolding merged
ignores_merged b c = search (ignoring_parts, ignores_merge_inner, ignores_merge_outer, ignores_merge_beside)

ignores_join_lists_at : (l n : ℕ) → IgnoresMarks (join_lists_at l n)
unfolding join_lists_at
ignores_join_lists_at l n = search (ignoring_parts, ignores_move_each_last)

ignores_join_next : (l : ℕ) → IgnoresMarks (join_next l)
unfolding join_next
ignores_join_next l = search (ignoring_parts, ignores_join_lists_at)

ignores_join_once : (b : ℕ) → IgnoresMarks (join_once b)
unfolding join_once list_to_join joins_next is_inside is_editable_for
ignores_join_once b = search (ignoring_parts, ignores_join_next)

ignores_join_lists : (b : ℕ) → IgnoresMarks (join_lists b)
unfolding join_lists has_list_to_join list_to_join joins_next is_inside is_editable_for
ignores_join_lists b = search (ignoring_parts, ignores_join_once)

pub ignores_fill_empty : (b : ℕ) → IgnoresMarks (fill_empty b)
unfolding fill_empty
ignores_fill_empty b = search (ignoring_parts, ignores_append_break)

ignores_finish : (b : ℕ) (values : List Recorded) → IgnoresMarks (finish b values)
unfolding finish
ignores_finish b values = search (ignoring_parts, ignores_join_lists, ignores_restore_values, ignores_fill_empty, ignores_breaks_at_end)

ignores_finish_if : (b : ℕ) (values : Option (List Recorded)) → IgnoresMarks (finish_if b values)
unfolding finish_if
ignores_finish_if b values = search (ignoring_parts, ignores_finish)

ignores_merge : (b c : ℕ) → IgnoresMarks (merge b c)
unfolding merge
ignores_merge b c = search (ignoring_parts, ignores_drop_prop, ignores_merged, ignores_finish_if)

ignores_merge_both : (backward : Bool) (b c : ℕ) → IgnoresMarks (merge_both backward b c)
unfolding merge_both are_mergeable is_inside is_editable_for
ignores_merge_both backward b c = search (ignoring_parts, ignores_merge, ignores_collapse_selection)

pub ignores_merge_if : (merging backward : Bool) (b c : Option ℕ) → IgnoresMarks (merge_if merging backward b c)
unfolding merge_if
ignores_merge_if merging backward b c = search (ignoring_parts, ignores_collapse_selection, ignores_merge_both)
