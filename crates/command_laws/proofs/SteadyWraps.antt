-- Wrapping a list leaves the states of contenteditable, where what is made has none.
use Rattle.std.proofs.Common.{ℕ, List, Option}
use Rattle.edit_laws.specs.Steady.{Steady}
use Rattle.edit_laws.proofs.SteadyRuns.{steady_parts, steady_answer, steady_bind, steady_make_element}
use Rattle.inline_value.specs.WrapSplit.declared.rule.Criterion.{Criterion}
use Rattle.inline_value.specs.WrapSplit.declared.rule.Recipe.{Recipe}
use Rattle.inline_value.specs.WrapSplit.declared.rule.Recipe.TheVariants.{Nothing, Make}
use Rattle.inline_value.specs.WrapSplit.Target.{blank_of, made_of, made_by, target}
use Rattle.inline_value.specs.WrapSplit.Wrap.{append_break, prepend_break, separate_with_br, append_all, parted_front, prepend_all, moved_in, grow_at, insert_if_loose, drop_empty, drop_parent, move_children, merged, merge_next, filled_from, filled, into_target, wrap_ends, wrap_list, wrap_members, wrap}
use Rattle.command_laws.specs.WrapLaws.{MakesNoState}
use Rattle.command_laws.proofs.SteadyMoves.{steady_moves}
use Rattle.command_laws.proofs.SteadySplits.{steady_breaks_from}

pub steady_append_break : (p : ℕ) → Steady (append_break p)
unfolding append_break
steady_append_break p = search (steady_parts, steady_moves)

steady_prepend_break : (p : ℕ) → Steady (prepend_break p)
unfolding prepend_break
steady_prepend_break p = search (steady_parts, steady_moves)

steady_separate_with_br : (p : ℕ) (before after : Option ℕ) → Steady (separate_with_br p before after)
unfolding separate_with_br
steady_separate_with_br p before after = search (steady_parts, steady_append_break)

steady_append_all : (p : ℕ) (list : List ℕ) → Steady (append_all p list)
unfolding append_all
steady_append_all p list = search (steady_parts, steady_moves, steady_separate_with_br)

steady_parted_front : (p : ℕ) (list : List ℕ) → Steady (parted_front p list)
unfolding parted_front
steady_parted_front p list = search (steady_parts, steady_prepend_break)

steady_prepend_all : (p : ℕ) (list : List ℕ) → Steady (prepend_all p list)
unfolding prepend_all
steady_prepend_all p list = search (steady_parts, steady_moves, steady_parted_front)

steady_moved_in : (p : ℕ) (list : List ℕ) (a : ℕ) → Steady (moved_in p list a)
unfolding moved_in
steady_moved_in p list a = search (steady_parts, steady_append_all, steady_prepend_all)

steady_grow_at : (p : ℕ) → Steady (grow_at p)
unfolding grow_at
steady_grow_at p = search steady_parts

steady_insert_if_loose : (p a : ℕ) → Steady (insert_if_loose p a)
unfolding insert_if_loose
steady_insert_if_loose p a = search (steady_parts, steady_moves, steady_grow_at)

steady_drop_empty : (o : ℕ) → Steady (drop_empty o)
unfolding drop_empty
steady_drop_empty o = search steady_parts

steady_drop_parent : (o : Option ℕ) → Steady (drop_parent o)
unfolding drop_parent
steady_drop_parent o = search (steady_parts, steady_drop_empty)

steady_move_children : (p q : ℕ) → Steady (move_children p q)
unfolding move_children
steady_move_children p q = search (steady_parts, steady_moves)

steady_merged : (p q : ℕ) → Steady (merged p q)
unfolding merged
steady_merged p q = search (steady_parts, steady_separate_with_br, steady_move_children)

steady_merge_next : (c : Criterion) (p : ℕ) → Steady (merge_next c p)
unfolding merge_next
steady_merge_next c p = search (steady_parts, steady_merged)

steady_filled_from : (c : Criterion) (p : ℕ) (list : List ℕ) (a : ℕ) (o : Option ℕ) → Steady (filled_from c p list a o)
unfolding filled_from
steady_filled_from c p list a o = search (steady_parts, steady_moved_in, steady_drop_parent, steady_merge_next, steady_breaks_from)

steady_filled : (c : Criterion) (p : ℕ) (list : List ℕ) (a : ℕ) → Steady (filled c p list a)
unfolding filled
steady_filled c p list a = search (steady_parts, steady_insert_if_loose, steady_filled_from)

steady_into : (c : Criterion) (list : List ℕ) (a : ℕ) (p : Option ℕ) → Steady (into_target c list a p)
unfolding into_target
steady_into c list a p = search (steady_parts, steady_filled)

steady_made : (r : Recipe) → MakesNoState r → Steady (made_by r)
unfolding made_by blank_of made_of
steady_made Nothing h = steady_answer _
steady_made (Make blank) h = steady_bind _ _ (steady_make_element blank.name blank.attributes h) (λ x. steady_answer _)

module _ (c : Criterion) (r : Recipe) (h : MakesNoState r) where
  steady_target : (a z : ℕ) → Steady (target c r a z)
  unfolding target
  steady_target a z = let made = steady_made r h in search (steady_parts, made)

  steady_ends : (list : List ℕ) (a z : ℕ) → Steady (wrap_ends c r list a z)
  unfolding wrap_ends
  steady_ends list a z = steady_bind (target c r a z) (into_target c list a) (steady_target a z) (steady_into c list a)

  steady_list : (list : List ℕ) → Steady (wrap_list c r list)
  unfolding wrap_list
  steady_list list = search (steady_parts, steady_ends)

  steady_members : (list : List ℕ) → Steady (wrap_members c r list)
  unfolding wrap_members
  steady_members list = search (steady_parts, steady_list)

  pub steady_wrap : (list : List ℕ) → Steady (wrap c r list)
  unfolding wrap
  steady_wrap list = search (steady_parts, steady_members)

-- a wrap that makes nothing
pub steady_wrap_found : (c : Criterion) (list : List ℕ) → Steady (wrap c Nothing list)
steady_wrap_found c list = steady_wrap c Nothing tt list
