-- Wrapping a list selects nothing, where what is made has no state of contenteditable.
use Rattle.std.proofs.Common.{ℕ, List, Option, refl}
use Rattle.edit_model.specs.Action.{MakeElement}
use Rattle.edit_model.specs.Laws.{LeavesStates}
use Rattle.edit_model.specs.Moves.{insert_before, insert_after, move_before, move_after, move_first, move_all_before, move_all_after, move_all_first, move_each_last, make_break}
use Rattle.inline_value.specs.WrapSplit.declared.rule.Criterion.{Criterion}
use Rattle.inline_value.specs.WrapSplit.declared.rule.Blank.{Blank}
use Rattle.inline_value.specs.WrapSplit.declared.rule.Recipe.TheVariants.{Make}
use Rattle.inline_value.specs.WrapSplit.Breaks.{breaks_before, breaks_at_end, breaks_from}
use Rattle.inline_value.specs.WrapSplit.Target.{blank_of, made_of, made_by, target}
use Rattle.inline_value.specs.WrapSplit.Wrap.{append_break, prepend_break, separate_with_br, append_all, parted_front, prepend_all, moved_in, grow_at, insert_if_loose, drop_empty, drop_parent, move_children, merged, merge_next, filled_from, filled, into_target, wrap_ends, wrap_list, wrap_members, wrap}
use Rattle.caret_laws.proofs.StillRuns.{Still, still_parts, still_answer, still_bind, still_make_element}

still_insert_before : (o n : ℕ) → Still (insert_before o n)
unfolding insert_before
still_insert_before o n = search still_parts

still_insert_after : (o n : ℕ) → Still (insert_after o n)
unfolding insert_after
still_insert_after o n = search still_parts

still_move_before : (o n : ℕ) → Still (move_before o n)
unfolding move_before
still_move_before o n = search still_parts

still_move_after : (o n : ℕ) → Still (move_after o n)
unfolding move_after
still_move_after o n = search still_parts

still_move_first : (p n : ℕ) → Still (move_first p n)
unfolding move_first
still_move_first p n = search still_parts

still_all_before : (list : List ℕ) (o : ℕ) → Still (move_all_before list o)
unfolding move_all_before
still_all_before list o = search (still_parts, still_move_before)

still_all_after : (list : List ℕ) (o : ℕ) → Still (move_all_after list o)
unfolding move_all_after
still_all_after list o = search (still_parts, still_move_after)

still_all_first : (list : List ℕ) (p : ℕ) → Still (move_all_first list p)
unfolding move_all_first
still_all_first list p = search (still_parts, still_move_first)

still_each_last : (list : List ℕ) (p : ℕ) → Still (move_each_last list p)
unfolding move_each_last
still_each_last list p = search still_parts

still_break : Still make_break
unfolding make_break
still_break = still_make_element _ _ refl

ruleset still_moves = (still_insert_before, still_insert_after, still_move_before, still_all_before, still_all_after, still_all_first, still_each_last, still_break)

still_breaks_before : (n : ℕ) → Still (breaks_before n)
unfolding breaks_before
still_breaks_before n = search still_parts depth 9

still_breaks_at_end : (n : ℕ) → Still (breaks_at_end n)
unfolding breaks_at_end
still_breaks_at_end n = search still_parts depth 9

still_breaks_from : (n : ℕ) → Still (breaks_from n)
unfolding breaks_from
still_breaks_from n = search (still_parts, still_breaks_before, still_breaks_at_end)

still_append_break : (p : ℕ) → Still (append_break p)
unfolding append_break
still_append_break p = search (still_parts, still_moves)

still_prepend_break : (p : ℕ) → Still (prepend_break p)
unfolding prepend_break
still_prepend_break p = search (still_parts, still_moves)

still_separate_with_br : (p : ℕ) (before after : Option ℕ) → Still (separate_with_br p before after)
unfolding separate_with_br
still_separate_with_br p before after = search (still_parts, still_append_break)

still_append_all : (p : ℕ) (list : List ℕ) → Still (append_all p list)
unfolding append_all
still_append_all p list = search (still_parts, still_moves, still_separate_with_br)

still_parted_front : (p : ℕ) (list : List ℕ) → Still (parted_front p list)
unfolding parted_front
still_parted_front p list = search (still_parts, still_prepend_break)

still_prepend_all : (p : ℕ) (list : List ℕ) → Still (prepend_all p list)
unfolding prepend_all
still_prepend_all p list = search (still_parts, still_moves, still_parted_front)

still_moved_in : (p : ℕ) (list : List ℕ) (a : ℕ) → Still (moved_in p list a)
unfolding moved_in
still_moved_in p list a = search (still_parts, still_append_all, still_prepend_all)

still_grow_at : (p : ℕ) → Still (grow_at p)
unfolding grow_at
still_grow_at p = search still_parts

still_insert_if_loose : (p a : ℕ) → Still (insert_if_loose p a)
unfolding insert_if_loose
still_insert_if_loose p a = search (still_parts, still_moves, still_grow_at)

still_drop_empty : (o : ℕ) → Still (drop_empty o)
unfolding drop_empty
still_drop_empty o = search still_parts

still_drop_parent : (o : Option ℕ) → Still (drop_parent o)
unfolding drop_parent
still_drop_parent o = search (still_parts, still_drop_empty)

still_move_children : (p q : ℕ) → Still (move_children p q)
unfolding move_children
still_move_children p q = search (still_parts, still_moves)

still_merged : (p q : ℕ) → Still (merged p q)
unfolding merged
still_merged p q = search (still_parts, still_separate_with_br, still_move_children)

still_merge_next : (c : Criterion) (p : ℕ) → Still (merge_next c p)
unfolding merge_next
still_merge_next c p = search (still_parts, still_merged)

still_filled_from : (c : Criterion) (p : ℕ) (list : List ℕ) (a : ℕ) (o : Option ℕ) → Still (filled_from c p list a o)
unfolding filled_from
still_filled_from c p list a o = search (still_parts, still_moved_in, still_drop_parent, still_merge_next, still_breaks_from)

still_filled : (c : Criterion) (p : ℕ) (list : List ℕ) (a : ℕ) → Still (filled c p list a)
unfolding filled
still_filled c p list a = search (still_parts, still_insert_if_loose, still_filled_from)

still_into : (c : Criterion) (list : List ℕ) (a : ℕ) (p : Option ℕ) → Still (into_target c list a p)
unfolding into_target
still_into c list a p = search (still_parts, still_filled)

still_made : (blank : Blank) → LeavesStates (MakeElement blank.name blank.attributes) → Still (made_by (Make blank))
unfolding made_by blank_of made_of
still_made blank h = still_bind _ _ (still_make_element blank.name blank.attributes h) (λ x. still_answer _)

module _ (c : Criterion) (blank : Blank) (h : LeavesStates (MakeElement blank.name blank.attributes)) where
  still_target : (a z : ℕ) → Still (target c (Make blank) a z)
  unfolding target
  still_target a z = let made = still_made blank h in search (still_parts, made)

  still_ends : (list : List ℕ) (a z : ℕ) → Still (wrap_ends c (Make blank) list a z)
  unfolding wrap_ends
  still_ends list a z = still_bind (target c (Make blank) a z) (into_target c list a) (still_target a z) (still_into c list a)

  still_list : (list : List ℕ) → Still (wrap_list c (Make blank) list)
  unfolding wrap_list
  still_list list = search (still_parts, still_ends)

  still_members : (list : List ℕ) → Still (wrap_members c (Make blank) list)
  unfolding wrap_members
  still_members list = search (still_parts, still_list)

  pub still_wrap : (list : List ℕ) → Still (wrap c (Make blank) list)
  unfolding wrap
  still_wrap list = search (still_parts, still_members)
