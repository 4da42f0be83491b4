-- Wrapping a list ignores marks and the cap.
use Rattle.std.proofs.Common.{ℕ, List, Option}
use Rattle.edit_model.specs.DomModel.declared.attributes.Attribute.{Attribute}
use Rattle.edit_model.specs.Confined.{is_editable_for}
use Rattle.inline_value.specs.WrapSplit.Target.{made_of, made_by, target, beside}
use Rattle.inline_value.specs.WrapSplit.declared.rule.Recipe.{Recipe}
use Rattle.inline_value.specs.WrapSplit.declared.rule.Criterion.{Criterion}
use Rattle.inline_value.specs.WrapSplit.Wrap.{append_break, prepend_break, separate_with_br, needs_br, append_all, parted_front, joins_front, prepend_all, moved_in, grow_at, insert_if_loose, drop_empty, drop_parent, move_children, merged, merge_next, filled_from, filled, into_target, wrap_ends, wrap_list, wrap_members, widened, extended_back, extended, with_break, break_next, wrap}
use Rattle.independence_laws.proofs.MoveRuns.{ignores_make_break, ignores_move_each_last, ignores_move_all_first, ignores_insert_before}
use Rattle.independence_laws.proofs.LookedAt.{last_visible_same, first_visible_same, all_hidden_same, extended_front_same, hidden_after_same, first_parent_same, members_same}
use Rattle.independence_laws.proofs.IgnoringRuns.{ignores_look, ignoring_parts}
use Rattle.independence_laws.proofs.SplitRuns.{ignores_breaks_from}
use Rattle.independence_laws.specs.Ignoring.{IgnoresMarks}

-- ---- the node that a list is wrapped in

ignores_made_of : (b : List ℕ × List Attribute) → IgnoresMarks (made_of b)
unfolding made_of
ignores_made_of b = search ignoring_parts

ignores_made_by : (r : Recipe) → IgnoresMarks (made_by r)
unfolding made_by
ignores_made_by r = search (ignoring_parts, ignores_made_of)

ignores_target : (c : Criterion) (r : Recipe) (a z : ℕ) → IgnoresMarks (target c r a z)
unfolding target beside is_editable_for
ignores_target c r a z = search (ignoring_parts, ignores_made_by)

-- ---- wrapping

pub ignores_append_break : (p : ℕ) → IgnoresMarks (append_break p)
unfolding append_break
ignores_append_break p = search (ignoring_parts, ignores_make_break)

ignores_prepend_break : (p : ℕ) → IgnoresMarks (prepend_break p)
unfolding prepend_break
ignores_prepend_break p = search (ignoring_parts, ignores_make_break)

ignores_separate_with_br : (p : ℕ) (before after : Option ℕ) → IgnoresMarks (separate_with_br p before after)
unfolding separate_with_br needs_br
ignores_separate_with_br p before after = search (ignoring_parts, ignores_append_break)

ignores_append_all : (p : ℕ) (list : List ℕ) → IgnoresMarks (append_all p list)
unfolding append_all
ignores_append_all p list = ignores_look _ (λ s. rw (last_visible_same s, first_visible_same s)) (λ s. search (ignoring_parts, ignores_separate_with_br, ignores_move_each_last))

ignores_parted_front : (p : ℕ) (list : List ℕ) → IgnoresMarks (parted_front p list)
unfolding parted_front joins_front
ignores_parted_front p list = ignores_look _ (λ s. rw (first_visible_same s, last_visible_same s)) (λ s. search (ignoring_parts, ignores_prepend_break))

ignores_prepend_all : (p : ℕ) (list : List ℕ) → IgnoresMarks (prepend_all p list)
unfolding prepend_all
ignores_prepend_all p list = search (ignoring_parts, ignores_parted_front, ignores_move_all_first)

ignores_moved_in : (p : ℕ) (list : List ℕ) (a : ℕ) → IgnoresMarks (moved_in p list a)
unfolding moved_in
ignores_moved_in p list a = search (ignoring_parts, ignores_append_all, ignores_prepend_all)

ignores_grow_at : (p : ℕ) → IgnoresMarks (grow_at p)
unfolding grow_at
ignores_grow_at p = search ignoring_parts

ignores_insert_if_loose : (p a : ℕ) → IgnoresMarks (insert_if_loose p a)
unfolding insert_if_loose
ignores_insert_if_loose p a = search (ignoring_parts, ignores_insert_before, ignores_grow_at)

ignores_drop_empty : (o : ℕ) → IgnoresMarks (drop_empty o)
unfolding drop_empty is_editable_for
ignores_drop_empty o = search ignoring_parts

ignores_drop_parent : (o : Option ℕ) → IgnoresMarks (drop_parent o)
unfolding drop_parent
ignores_drop_parent o = search (ignoring_parts, ignores_drop_empty)

ignores_move_children : (p q : ℕ) → IgnoresMarks (move_children p q)
unfolding move_children
ignores_move_children p q = search (ignoring_parts, ignores_move_each_last)

ignores_merged : (p q : ℕ) → IgnoresMarks (merged p q)
unfolding merged
ignores_merged p q = search (ignoring_parts, ignores_separate_with_br, ignores_move_children)

ignores_merge_next : (c : Criterion) (p : ℕ) → IgnoresMarks (merge_next c p)
unfolding merge_next is_editable_for
ignores_merge_next c p = search (ignoring_parts, ignores_merged)

ignores_filled_from : (c : Criterion) (p : ℕ) (list : List ℕ) (a : ℕ) (o : Option ℕ) → IgnoresMarks (filled_from c p list a o)
unfolding filled_from
ignores_filled_from c p list a o = search (ignoring_parts, ignores_moved_in, ignores_drop_parent, ignores_merge_next, ignores_breaks_from)

ignores_filled : (c : Criterion) (p : ℕ) (list : List ℕ) (a : ℕ) → IgnoresMarks (filled c p list a)
unfolding filled
ignores_filled c p list a = search (ignoring_parts, ignores_insert_if_loose, ignores_filled_from)

ignores_into_target : (c : Criterion) (list : List ℕ) (a : ℕ) (p : Option ℕ) → IgnoresMarks (into_target c list a p)
unfolding into_target
ignores_into_target c list a p = search (ignoring_parts, ignores_filled)

ignores_wrap_ends : (c : Criterion) (r : Recipe) (list : List ℕ) (a z : ℕ) → IgnoresMarks (wrap_ends c r list a z)
unfolding wrap_ends
ignores_wrap_ends c r list a z = search (ignoring_parts, ignores_target, ignores_into_target)

ignores_wrap_list : (c : Criterion) (r : Recipe) (list : List ℕ) → IgnoresMarks (wrap_list c r list)
unfolding wrap_list
ignores_wrap_list c r list = search (ignoring_parts, ignores_wrap_ends)

ignores_wrap_members : (c : Criterion) (r : Recipe) (list : List ℕ) → IgnoresMarks (wrap_members c r list)
unfolding wrap_members widened extended_back extended with_break break_next
ignores_wrap_members c r list = ignores_look _ (λ s. rw (all_hidden_same s, extended_front_same s, hidden_after_same s)) (λ s. search (ignoring_parts, ignores_wrap_list))

pub ignores_wrap : (c : Criterion) (r : Recipe) (list : List ℕ) → IgnoresMarks (wrap c r list)
unfolding wrap
ignores_wrap c r list = ignores_look _ (λ s. rw (first_parent_same s, members_same s)) (λ s. search (ignoring_parts, ignores_wrap_members))
