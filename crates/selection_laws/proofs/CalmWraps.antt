-- Splitting parents and wrapping nodes place no point by themselves.
use Rattle.inline_value.specs.WrapSplit.Breaks.{breaks_at_end, breaks_before, breaks_from}
use Rattle.inline_value.specs.WrapSplit.Split.{break_after, break_before, clear_before, close, copied, copy_front, drop_first_break, remove_keeping_children, split_around, split_at, split_end, split_marked, split_members, split_parent, split_rest, tidy_after}
use Rattle.inline_value.specs.WrapSplit.Target.{made_by, made_of, target}
use Rattle.inline_value.specs.WrapSplit.Wrap.{append_all, append_break, drop_empty, drop_parent, filled, filled_from, grow_at, insert_if_loose, into_target, merge_next, merged, move_children, moved_in, parted_front, prepend_all, prepend_break, separate_with_br, wrap, wrap_ends, wrap_list, wrap_members}
use Rattle.edit_laws.proofs.HostRuns.{Calm, calm_parts}
use Rattle.selection_laws.proofs.CalmMoves.{calm_insert_after, calm_insert_before, calm_make_break, calm_move_all_after, calm_move_all_before, calm_move_all_first, calm_move_each_last}

pub calm_breaks_before : (n : _) → Calm (breaks_before n)
unfolding breaks_before
calm_breaks_before n = search calm_parts

pub calm_breaks_at_end : (n : _) → Calm (breaks_at_end n)
unfolding breaks_at_end
calm_breaks_at_end n = search calm_parts

pub calm_breaks_from : (n : _) → Calm (breaks_from n)
unfolding breaks_from
calm_breaks_from n = search (calm_parts, calm_breaks_at_end, calm_breaks_before)

pub calm_break_before : (wanted : _) (a : _) → Calm (break_before wanted a)
unfolding break_before
calm_break_before wanted a = search (calm_parts, calm_insert_before, calm_make_break)

pub calm_break_after : (wanted : _) (z : _) → Calm (break_after wanted z)
unfolding break_after
calm_break_after wanted z = search (calm_parts, calm_insert_after, calm_make_break)

pub calm_clear_before : (o : _) (list : _) → Calm (clear_before o list)
unfolding clear_before
calm_clear_before o list = search (calm_parts, calm_breaks_before)

pub calm_copied : (o : _) (a : _) → Calm (copied o a)
unfolding copied
calm_copied o a = search (calm_parts, calm_insert_before, calm_move_each_last) depth 10

pub calm_copy_front : (o : _) (list : _) (a : _) → Calm (copy_front o list a)
unfolding copy_front
calm_copy_front o list a = search (calm_parts, calm_copied)

pub calm_drop_first_break : (o : _) (z : _) → Calm (drop_first_break o z)
unfolding drop_first_break
calm_drop_first_break o z = search calm_parts

pub calm_close : (o : _) (z : _) (wanted : _) → Calm (close o z wanted)
unfolding close
calm_close o z wanted = search (calm_parts, calm_breaks_before, calm_break_after)

pub calm_tidy_after : (z : _) → Calm (tidy_after z)
unfolding tidy_after
calm_tidy_after z = search (calm_parts, calm_breaks_at_end)

pub calm_split_end : (o : _) (list : _) (z : _) (wanted : _) → Calm (split_end o list z wanted)
unfolding split_end
calm_split_end o list z wanted = search (calm_parts, calm_move_all_after, calm_breaks_at_end, calm_break_after)

pub calm_split_rest : (o : _) (list : _) (a : _) (z : _) (before : _) (after : _) → Calm (split_rest o list a z before after)
unfolding split_rest
calm_split_rest o list a z before after = search (calm_parts, calm_move_all_before, calm_break_before, calm_close, calm_copy_front, calm_drop_first_break, calm_tidy_after) depth 10

pub calm_split_marked : (o : _) (list : _) (a : _) (z : _) → Calm (split_marked o list a z)
unfolding split_marked
calm_split_marked o list a z = search (calm_parts, calm_split_end, calm_split_rest)

pub calm_split_at : (o : _) (list : _) (a : _) (z : _) → Calm (split_at o list a z)
unfolding split_at
calm_split_at o list a z = search (calm_parts, calm_clear_before, calm_split_marked)

pub calm_split_members : (o : _) (list : _) → Calm (split_members o list)
unfolding split_members
calm_split_members o list = search (calm_parts, calm_split_at)

pub calm_split_parent : (list : _) → Calm (split_parent list)
unfolding split_parent
calm_split_parent list = search (calm_parts, calm_split_members)

pub calm_split_around : (n : _) → Calm (split_around n)
unfolding split_around
calm_split_around n = search (calm_parts, calm_split_parent)

pub calm_remove_keeping_children : (n : _) → Calm (remove_keeping_children n)
unfolding remove_keeping_children
calm_remove_keeping_children n = search (calm_parts, calm_split_parent)

pub calm_made_of : (b : _) → Calm (made_of b)
unfolding made_of
calm_made_of b = search calm_parts

pub calm_made_by : (r : _) → Calm (made_by r)
unfolding made_by
calm_made_by r = search (calm_parts, calm_made_of)

pub calm_target : (c : _) (r : _) (a : _) (z : _) → Calm (target c r a z)
unfolding target
calm_target c r a z = search (calm_parts, calm_made_by)

pub calm_append_break : (p : _) → Calm (append_break p)
unfolding append_break
calm_append_break p = search (calm_parts, calm_make_break)

pub calm_prepend_break : (p : _) → Calm (prepend_break p)
unfolding prepend_break
calm_prepend_break p = search (calm_parts, calm_make_break)

pub calm_separate_with_br : (p : _) (before : _) (after : _) → Calm (separate_with_br p before after)
unfolding separate_with_br
calm_separate_with_br p before after = search (calm_parts, calm_append_break)

pub calm_append_all : (p : _) (list : _) → Calm (append_all p list)
unfolding append_all
calm_append_all p list = search (calm_parts, calm_move_each_last, calm_separate_with_br)

pub calm_parted_front : (p : _) (list : _) → Calm (parted_front p list)
unfolding parted_front
calm_parted_front p list = search (calm_parts, calm_prepend_break)

pub calm_prepend_all : (p : _) (list : _) → Calm (prepend_all p list)
unfolding prepend_all
calm_prepend_all p list = search (calm_parts, calm_move_all_first, calm_parted_front)

pub calm_moved_in : (p : _) (list : _) (a : _) → Calm (moved_in p list a)
unfolding moved_in
calm_moved_in p list a = search (calm_parts, calm_append_all, calm_prepend_all)

pub calm_grow_at : (p : _) → Calm (grow_at p)
unfolding grow_at
calm_grow_at p = search calm_parts

pub calm_insert_if_loose : (p : _) (a : _) → Calm (insert_if_loose p a)
unfolding insert_if_loose
calm_insert_if_loose p a = search (calm_parts, calm_insert_before, calm_grow_at)

pub calm_drop_empty : (o : _) → Calm (drop_empty o)
unfolding drop_empty
calm_drop_empty o = search calm_parts

pub calm_drop_parent : (o : _) → Calm (drop_parent o)
unfolding drop_parent
calm_drop_parent o = search (calm_parts, calm_drop_empty)

pub calm_move_children : (p : _) (q : _) → Calm (move_children p q)
unfolding move_children
calm_move_children p q = search (calm_parts, calm_move_each_last)

pub calm_merged : (p : _) (q : _) → Calm (merged p q)
unfolding merged
calm_merged p q = search (calm_parts, calm_move_children, calm_separate_with_br) depth 9

pub calm_merge_next : (c : _) (p : _) → Calm (merge_next c p)
unfolding merge_next
calm_merge_next c p = search (calm_parts, calm_merged)

pub calm_filled_from : (c : _) (p : _) (list : _) (a : _) (o : _) → Calm (filled_from c p list a o)
unfolding filled_from
calm_filled_from c p list a o = search (calm_parts, calm_breaks_from, calm_drop_parent, calm_merge_next, calm_moved_in) depth 9

pub calm_filled : (c : _) (p : _) (list : _) (a : _) → Calm (filled c p list a)
unfolding filled
calm_filled c p list a = search (calm_parts, calm_filled_from, calm_insert_if_loose)

pub calm_into_target : (c : _) (list : _) (a : _) (p : _) → Calm (into_target c list a p)
unfolding into_target
calm_into_target c list a p = search (calm_parts, calm_filled)

pub calm_wrap_ends : (c : _) (r : _) (list : _) (a : _) (z : _) → Calm (wrap_ends c r list a z)
unfolding wrap_ends
calm_wrap_ends c r list a z = search (calm_parts, calm_target, calm_into_target)

pub calm_wrap_list : (c : _) (r : _) (list : _) → Calm (wrap_list c r list)
unfolding wrap_list
calm_wrap_list c r list = search (calm_parts, calm_wrap_ends)

pub calm_wrap_members : (c : _) (r : _) (list : _) → Calm (wrap_members c r list)
unfolding wrap_members
calm_wrap_members c r list = search (calm_parts, calm_wrap_list)

pub calm_wrap : (c : _) (r : _) (list : _) → Calm (wrap c r list)
unfolding wrap
calm_wrap c r list = search (calm_parts, calm_wrap_members)
