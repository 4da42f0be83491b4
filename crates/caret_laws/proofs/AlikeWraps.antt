-- Wrapping a list is the same whether the command keeps contents or not, where nothing is taken out that is kept.
use Rattle.std.proofs.Common.{ℕ, List, Option}
use Rattle.edit_model.specs.DomModel.declared.attributes.Attribute.{Attribute}
use Rattle.edit_model.specs.Confined.{is_editable_for}
use Rattle.inline_value.specs.WrapSplit.Target.{made_of, made_by, target, beside}
use Rattle.inline_value.specs.WrapSplit.declared.rule.Recipe.{Recipe}
use Rattle.inline_value.specs.WrapSplit.declared.rule.Criterion.{Criterion}
use Rattle.inline_value.specs.WrapSplit.Wrap.{append_break, prepend_break, separate_with_br, needs_br, append_all, parted_front, joins_front, prepend_all, moved_in, grow_at, insert_if_loose, drop_empty, drop_parent, move_children, merged, merge_next, filled_from, filled, into_target, wrap_ends, wrap_list, wrap_members, widened, extended_back, extended, with_break, break_next, wrap}
use Rattle.caret_laws.proofs.AlikeMoves.{alike_make_break, alike_move_each_last, alike_move_all_first, alike_insert_before}
use Rattle.caret_laws.proofs.LookedAt.{last_visible_same, first_visible_same, all_hidden_same, extended_front_same, hidden_after_same, first_parent_same, members_same}
use Rattle.caret_laws.proofs.SparingRuns.{Alike, alike_look, alike_parts}
use Rattle.caret_laws.proofs.AlikeSplits.{alike_breaks_from}

-- ---- the node that a list is wrapped in

alike_made_of : (b : List ℕ × List Attribute) → Alike (made_of b)
unfolding made_of
alike_made_of b = search alike_parts

alike_made_by : (r : Recipe) → Alike (made_by r)
unfolding made_by
alike_made_by r = search (alike_parts, alike_made_of)

alike_target : (c : Criterion) (r : Recipe) (a z : ℕ) → Alike (target c r a z)
unfolding target beside is_editable_for
alike_target c r a z = search (alike_parts, alike_made_by)

-- ---- wrapping

pub alike_append_break : (p : ℕ) → Alike (append_break p)
unfolding append_break
alike_append_break p = search (alike_parts, alike_make_break)

alike_prepend_break : (p : ℕ) → Alike (prepend_break p)
unfolding prepend_break
alike_prepend_break p = search (alike_parts, alike_make_break)

alike_separate_with_br : (p : ℕ) (before after : Option ℕ) → Alike (separate_with_br p before after)
unfolding separate_with_br needs_br
alike_separate_with_br p before after = search (alike_parts, alike_append_break)

alike_append_all : (p : ℕ) (list : List ℕ) → Alike (append_all p list)
unfolding append_all
alike_append_all p list = alike_look _ (λ s. rw (last_visible_same s, first_visible_same s)) (λ s. search (alike_parts, alike_separate_with_br, alike_move_each_last))

alike_parted_front : (p : ℕ) (list : List ℕ) → Alike (parted_front p list)
unfolding parted_front joins_front
alike_parted_front p list = alike_look _ (λ s. rw (first_visible_same s, last_visible_same s)) (λ s. search (alike_parts, alike_prepend_break))

alike_prepend_all : (p : ℕ) (list : List ℕ) → Alike (prepend_all p list)
unfolding prepend_all
alike_prepend_all p list = search (alike_parts, alike_parted_front, alike_move_all_first)

alike_moved_in : (p : ℕ) (list : List ℕ) (a : ℕ) → Alike (moved_in p list a)
unfolding moved_in
alike_moved_in p list a = search (alike_parts, alike_append_all, alike_prepend_all)

alike_grow_at : (p : ℕ) → Alike (grow_at p)
unfolding grow_at
alike_grow_at p = search alike_parts

alike_insert_if_loose : (p a : ℕ) → Alike (insert_if_loose p a)
unfolding insert_if_loose
alike_insert_if_loose p a = search (alike_parts, alike_insert_before, alike_grow_at)

alike_drop_empty : (o : ℕ) → Alike (drop_empty o)
unfolding drop_empty is_editable_for
alike_drop_empty o = search alike_parts

alike_drop_parent : (o : Option ℕ) → Alike (drop_parent o)
unfolding drop_parent
alike_drop_parent o = search (alike_parts, alike_drop_empty)

alike_move_children : (p q : ℕ) → Alike (move_children p q)
unfolding move_children
alike_move_children p q = search (alike_parts, alike_move_each_last)

alike_merged : (p q : ℕ) → Alike (merged p q)
unfolding merged
alike_merged p q = search (alike_parts, alike_separate_with_br, alike_move_children)

alike_merge_next : (c : Criterion) (p : ℕ) → Alike (merge_next c p)
unfolding merge_next is_editable_for
alike_merge_next c p = search (alike_parts, alike_merged)

alike_filled_from : (c : Criterion) (p : ℕ) (list : List ℕ) (a : ℕ) (o : Option ℕ) → Alike (filled_from c p list a o)
unfolding filled_from
alike_filled_from c p list a o = search (alike_parts, alike_moved_in, alike_drop_parent, alike_merge_next, alike_breaks_from)

alike_filled : (c : Criterion) (p : ℕ) (list : List ℕ) (a : ℕ) → Alike (filled c p list a)
unfolding filled
alike_filled c p list a = search (alike_parts, alike_insert_if_loose, alike_filled_from)

alike_into_target : (c : Criterion) (list : List ℕ) (a : ℕ) (p : Option ℕ) → Alike (into_target c list a p)
unfolding into_target
alike_into_target c list a p = search (alike_parts, alike_filled)

alike_wrap_ends : (c : Criterion) (r : Recipe) (list : List ℕ) (a z : ℕ) → Alike (wrap_ends c r list a z)
unfolding wrap_ends
alike_wrap_ends c r list a z = search (alike_parts, alike_target, alike_into_target)

alike_wrap_list : (c : Criterion) (r : Recipe) (list : List ℕ) → Alike (wrap_list c r list)
unfolding wrap_list
alike_wrap_list c r list = search (alike_parts, alike_wrap_ends)

alike_wrap_members : (c : Criterion) (r : Recipe) (list : List ℕ) → Alike (wrap_members c r list)
unfolding wrap_members widened extended_back extended with_break break_next
alike_wrap_members c r list = alike_look _ (λ s. rw (all_hidden_same s, extended_front_same s, hidden_after_same s)) (λ s. search (alike_parts, alike_wrap_list))

pub alike_wrap : (c : Criterion) (r : Recipe) (list : List ℕ) → Alike (wrap c r list)
unfolding wrap
alike_wrap c r list = alike_look _ (λ s. rw (first_parent_same s, members_same s)) (λ s. search (alike_parts, alike_wrap_members))
