-- Removing line breaks and splitting parents ignore marks and the cap.
use Rattle.std.proofs.Common.{ℕ, Bool, List}
use Rattle.edit_model.specs.Confined.{is_editable_for}
use Rattle.inline_value.specs.EditActions.Siblings.{starts_in, ends_in}
use Rattle.inline_value.specs.WrapSplit.Breaks.{breaks_before, back, back_step, last_below, breaks_at_end, top_hidden, up_step, breaks_from}
use Rattle.inline_value.specs.WrapSplit.Split.{break_before, break_after, clear_before, copied, copy_front, drop_first_break, close, tidy_after, split_end, split_rest, split_marked, split_at, split_members, split_parent, split_around, remove_keeping_children}
use Rattle.independence_laws.proofs.MoveRuns.{ignores_make_break, ignores_insert_before, ignores_insert_after, ignores_move_each_last, ignores_move_all_after, ignores_move_all_before}
use Rattle.independence_laws.proofs.LookedAt.{first_parent_same, members_same}
use Rattle.independence_laws.proofs.IgnoringRuns.{ignores_look, ignoring_parts}
use Rattle.independence_laws.specs.Ignoring.{IgnoresMarks}

-- ---- line breaks

ignores_breaks_before : (n : ℕ) → IgnoresMarks (breaks_before n)
unfolding breaks_before is_editable_for back back_step last_below
ignores_breaks_before n = search ignoring_parts

pub ignores_breaks_at_end : (n : ℕ) → IgnoresMarks (breaks_at_end n)
unfolding breaks_at_end is_editable_for back back_step last_below top_hidden up_step
ignores_breaks_at_end n = search ignoring_parts

pub ignores_breaks_from : (n : ℕ) → IgnoresMarks (breaks_from n)
unfolding breaks_from
ignores_breaks_from n = search (ignoring_parts, ignores_breaks_before, ignores_breaks_at_end)

-- ---- splitting a parent

ignores_break_before : (wanted : Bool) (a : ℕ) → IgnoresMarks (break_before wanted a)
unfolding break_before
ignores_break_before wanted a = search (ignoring_parts, ignores_make_break, ignores_insert_before)

ignores_break_after : (wanted : Bool) (z : ℕ) → IgnoresMarks (break_after wanted z)
unfolding break_after
ignores_break_after wanted z = search (ignoring_parts, ignores_make_break, ignores_insert_after)

ignores_clear_before : (o : ℕ) (list : List ℕ) → IgnoresMarks (clear_before o list)
unfolding clear_before starts_in
ignores_clear_before o list = search (ignoring_parts, ignores_breaks_before)

ignores_copied : (o a : ℕ) → IgnoresMarks (copied o a)
unfolding copied
ignores_copied o a = search (ignoring_parts, ignores_insert_before, ignores_move_each_last)

ignores_copy_front : (o : ℕ) (list : List ℕ) (a : ℕ) → IgnoresMarks (copy_front o list a)
unfolding copy_front starts_in
ignores_copy_front o list a = search (ignoring_parts, ignores_copied)

ignores_drop_first_break : (o z : ℕ) → IgnoresMarks (drop_first_break o z)
unfolding drop_first_break
ignores_drop_first_break o z = search ignoring_parts

ignores_close : (o z : ℕ) (wanted : Bool) → IgnoresMarks (close o z wanted)
unfolding close
ignores_close o z wanted = search (ignoring_parts, ignores_break_after, ignores_breaks_before)

ignores_tidy_after : (z : ℕ) → IgnoresMarks (tidy_after z)
unfolding tidy_after
ignores_tidy_after z = search (ignoring_parts, ignores_breaks_at_end)

ignores_split_end : (o : ℕ) (list : List ℕ) (z : ℕ) (wanted : Bool) → IgnoresMarks (split_end o list z wanted)
unfolding split_end
ignores_split_end o list z wanted = search (ignoring_parts, ignores_move_all_after, ignores_break_after, ignores_breaks_at_end)

ignores_split_rest : (o : ℕ) (list : List ℕ) (a z : ℕ) (before after : Bool) → IgnoresMarks (split_rest o list a z before after)
unfolding split_rest
ignores_split_rest o list a z before after = search (ignoring_parts, ignores_copy_front, ignores_move_all_before, ignores_break_before, ignores_drop_first_break, ignores_close, ignores_tidy_after) depth 7

ignores_split_marked : (o : ℕ) (list : List ℕ) (a z : ℕ) → IgnoresMarks (split_marked o list a z)
unfolding split_marked starts_in ends_in
ignores_split_marked o list a z = search (ignoring_parts, ignores_split_end, ignores_split_rest)

ignores_split_at : (o : ℕ) (list : List ℕ) (a z : ℕ) → IgnoresMarks (split_at o list a z)
unfolding split_at is_editable_for
ignores_split_at o list a z = search (ignoring_parts, ignores_clear_before, ignores_split_marked)

ignores_split_members : (o : ℕ) (list : List ℕ) → IgnoresMarks (split_members o list)
unfolding split_members
ignores_split_members o list = search (ignoring_parts, ignores_split_at)

pub ignores_split_parent : (list : List ℕ) → IgnoresMarks (split_parent list)
unfolding split_parent
ignores_split_parent list = ignores_look _ (λ s. rw (first_parent_same s, members_same s)) (λ s. search (ignoring_parts, ignores_split_members))

pub ignores_split_around : (n : ℕ) → IgnoresMarks (split_around n)
unfolding split_around
ignores_split_around n = search (ignoring_parts, ignores_split_parent)

pub ignores_remove_keeping_children : (n : ℕ) → IgnoresMarks (remove_keeping_children n)
unfolding remove_keeping_children
ignores_remove_keeping_children n = search (ignoring_parts, ignores_split_parent)
