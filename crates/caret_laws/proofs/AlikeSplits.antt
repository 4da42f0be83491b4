-- Removing line breaks and splitting parents is the same whether the command keeps contents or not, where nothing is taken out that is
-- kept.
use Rattle.std.proofs.Common.{ℕ, Bool, List}
use Rattle.edit_model.specs.Confined.{is_editable_for}
use Rattle.inline_value.specs.EditActions.Siblings.{starts_in, ends_in}
use Rattle.inline_value.specs.WrapSplit.Breaks.{breaks_before, back, back_step, last_below, breaks_at_end, top_hidden, up_step, breaks_from}
use Rattle.inline_value.specs.WrapSplit.Split.{break_before, break_after, clear_before, copied, copy_front, drop_first_break, close, tidy_after, split_end, split_rest, split_marked, split_at, split_members, split_parent, split_around, remove_keeping_children}
use Rattle.caret_laws.proofs.AlikeMoves.{alike_make_break, alike_insert_before, alike_insert_after, alike_move_each_last, alike_move_all_after, alike_move_all_before}
use Rattle.caret_laws.proofs.LookedAt.{first_parent_same, members_same}
use Rattle.caret_laws.proofs.SparingRuns.{Alike, alike_look, alike_parts}

-- ---- line breaks

pub alike_breaks_before : (n : ℕ) → Alike (breaks_before n)
unfolding breaks_before is_editable_for back back_step last_below
alike_breaks_before n = search alike_parts depth 6

pub alike_breaks_at_end : (n : ℕ) → Alike (breaks_at_end n)
unfolding breaks_at_end is_editable_for back back_step last_below top_hidden up_step
alike_breaks_at_end n = search alike_parts

pub alike_breaks_from : (n : ℕ) → Alike (breaks_from n)
unfolding breaks_from
alike_breaks_from n = search (alike_parts, alike_breaks_before, alike_breaks_at_end)

-- ---- splitting a parent

alike_break_before : (wanted : Bool) (a : ℕ) → Alike (break_before wanted a)
unfolding break_before
alike_break_before wanted a = search (alike_parts, alike_make_break, alike_insert_before)

alike_break_after : (wanted : Bool) (z : ℕ) → Alike (break_after wanted z)
unfolding break_after
alike_break_after wanted z = search (alike_parts, alike_make_break, alike_insert_after)

alike_clear_before : (o : ℕ) (list : List ℕ) → Alike (clear_before o list)
unfolding clear_before starts_in
alike_clear_before o list = search (alike_parts, alike_breaks_before)

alike_copied : (o a : ℕ) → Alike (copied o a)
unfolding copied
alike_copied o a = search (alike_parts, alike_insert_before, alike_move_each_last)

alike_copy_front : (o : ℕ) (list : List ℕ) (a : ℕ) → Alike (copy_front o list a)
unfolding copy_front starts_in
alike_copy_front o list a = search (alike_parts, alike_copied)

alike_drop_first_break : (o z : ℕ) → Alike (drop_first_break o z)
unfolding drop_first_break
alike_drop_first_break o z = search alike_parts depth 6

alike_close : (o z : ℕ) (wanted : Bool) → Alike (close o z wanted)
unfolding close
alike_close o z wanted = search (alike_parts, alike_break_after, alike_breaks_before)

alike_tidy_after : (z : ℕ) → Alike (tidy_after z)
unfolding tidy_after
alike_tidy_after z = search (alike_parts, alike_breaks_at_end)

alike_split_end : (o : ℕ) (list : List ℕ) (z : ℕ) (wanted : Bool) → Alike (split_end o list z wanted)
unfolding split_end
alike_split_end o list z wanted = search (alike_parts, alike_move_all_after, alike_break_after, alike_breaks_at_end)

alike_split_rest : (o : ℕ) (list : List ℕ) (a z : ℕ) (before after : Bool) → Alike (split_rest o list a z before after)
unfolding split_rest
alike_split_rest o list a z before after = search (alike_parts, alike_copy_front, alike_move_all_before, alike_break_before, alike_drop_first_break, alike_close, alike_tidy_after) depth 7

alike_split_marked : (o : ℕ) (list : List ℕ) (a z : ℕ) → Alike (split_marked o list a z)
unfolding split_marked starts_in ends_in
alike_split_marked o list a z = search (alike_parts, alike_split_end, alike_split_rest)

alike_split_at : (o : ℕ) (list : List ℕ) (a z : ℕ) → Alike (split_at o list a z)
unfolding split_at is_editable_for
alike_split_at o list a z = search (alike_parts, alike_clear_before, alike_split_marked)

alike_split_members : (o : ℕ) (list : List ℕ) → Alike (split_members o list)
unfolding split_members
alike_split_members o list = search (alike_parts, alike_split_at)

pub alike_split_parent : (list : List ℕ) → Alike (split_parent list)
unfolding split_parent
alike_split_parent list = alike_look _ (λ s. rw (first_parent_same s, members_same s)) (λ s. search (alike_parts, alike_split_members))

pub alike_split_around : (n : ℕ) → Alike (split_around n)
unfolding split_around
alike_split_around n = search (alike_parts, alike_split_parent)

pub alike_remove_keeping_children : (n : ℕ) → Alike (remove_keeping_children n)
unfolding remove_keeping_children
alike_remove_keeping_children n = search (alike_parts, alike_split_parent)
