-- Wrapping a list keeps to the grammar, where what is made has a name that commands make, and attributes that they set.
use Rattle.std.proofs.Common.{◌≡◌, ℕ, true, List, Option}
use Rattle.inline_value.specs.WrapSplit.declared.rule.Criterion.{Criterion}
use Rattle.inline_value.specs.WrapSplit.declared.rule.Recipe.{Recipe}
use Rattle.inline_value.specs.WrapSplit.declared.rule.Recipe.TheVariants.{Nothing, Make}
use Rattle.inline_value.specs.WrapSplit.Target.{blank_of, made_of, made_by, target}
use Rattle.inline_value.specs.WrapSplit.Wrap.{append_break, prepend_break, separate_with_br, append_all, parted_front, prepend_all, moved_in, grow_at, insert_if_loose, drop_empty, drop_parent, move_children, merged, merge_next, filled_from, filled, into_target, wrap_ends, wrap_list, wrap_members, wrap}
use Rattle.making_laws.specs.Names.{is_made_name}
use Rattle.grammar_laws.specs.Proper.{IsList}
use Rattle.grammar_laws.specs.Runs.{Proper}
use Rattle.grammar_laws.proofs.Splits.{proper_breaks_from}
use Rattle.grammar_laws.proofs.ProperRuns.{proper_answer, proper_bind, proper_make, proper_parts, proper_moves}

pub proper_append_break : (p : ℕ) → Proper (append_break p)
unfolding append_break
proper_append_break p = search (proper_parts, proper_moves)

proper_prepend_break : (p : ℕ) → Proper (prepend_break p)
unfolding prepend_break
proper_prepend_break p = search (proper_parts, proper_moves)

proper_separate_with_br : (p : ℕ) (before after : Option ℕ) → Proper (separate_with_br p before after)
unfolding separate_with_br
proper_separate_with_br p before after = search (proper_parts, proper_append_break)

proper_append_all : (p : ℕ) (list : List ℕ) → Proper (append_all p list)
unfolding append_all
proper_append_all p list = search (proper_parts, proper_moves, proper_separate_with_br)

proper_parted_front : (p : ℕ) (list : List ℕ) → Proper (parted_front p list)
unfolding parted_front
proper_parted_front p list = search (proper_parts, proper_prepend_break)

proper_prepend_all : (p : ℕ) (list : List ℕ) → Proper (prepend_all p list)
unfolding prepend_all
proper_prepend_all p list = search (proper_parts, proper_moves, proper_parted_front)

proper_moved_in : (p : ℕ) (list : List ℕ) (a : ℕ) → Proper (moved_in p list a)
unfolding moved_in
proper_moved_in p list a = search (proper_parts, proper_append_all, proper_prepend_all)

proper_grow_at : (p : ℕ) → Proper (grow_at p)
unfolding grow_at
proper_grow_at p = search proper_parts

proper_insert_if_loose : (p a : ℕ) → Proper (insert_if_loose p a)
unfolding insert_if_loose
proper_insert_if_loose p a = search (proper_parts, proper_moves, proper_grow_at)

proper_drop_empty : (o : ℕ) → Proper (drop_empty o)
unfolding drop_empty
proper_drop_empty o = search proper_parts

proper_drop_parent : (o : Option ℕ) → Proper (drop_parent o)
unfolding drop_parent
proper_drop_parent o = search (proper_parts, proper_drop_empty)

proper_move_children : (p q : ℕ) → Proper (move_children p q)
unfolding move_children
proper_move_children p q = search (proper_parts, proper_moves)

proper_merged : (p q : ℕ) → Proper (merged p q)
unfolding merged
proper_merged p q = search (proper_parts, proper_separate_with_br, proper_move_children)

proper_merge_next : (c : Criterion) (p : ℕ) → Proper (merge_next c p)
unfolding merge_next
proper_merge_next c p = search (proper_parts, proper_merged)

proper_filled_from : (c : Criterion) (p : ℕ) (list : List ℕ) (a : ℕ) (o : Option ℕ) → Proper (filled_from c p list a o)
unfolding filled_from
proper_filled_from c p list a o = search (proper_parts, proper_moved_in, proper_drop_parent, proper_merge_next, proper_breaks_from)

proper_filled : (c : Criterion) (p : ℕ) (list : List ℕ) (a : ℕ) → Proper (filled c p list a)
unfolding filled
proper_filled c p list a = search (proper_parts, proper_insert_if_loose, proper_filled_from)

proper_into : (c : Criterion) (list : List ℕ) (a : ℕ) (p : Option ℕ) → Proper (into_target c list a p)
unfolding into_target
proper_into c list a p = search (proper_parts, proper_filled)

-- what a recipe makes has a name that commands make, and attributes that they set
abbrev pub MakesListed : Recipe → Type 0
MakesListed Nothing = Unit {0}
MakesListed (Make blank) = (is_made_name blank.name ≡ true) × IsList blank.attributes

proper_made : (r : Recipe) → MakesListed r → Proper (made_by r)
unfolding made_by blank_of made_of
proper_made Nothing h = proper_answer _
proper_made (Make blank) h = proper_bind _ _ (proper_make blank.name blank.attributes h.0 h.1) (λ x. proper_answer _)

module _ (c : Criterion) (r : Recipe) (h : MakesListed r) where
  proper_target : (a z : ℕ) → Proper (target c r a z)
  unfolding target
  proper_target a z = let made = proper_made r h in search (proper_parts, made)

  proper_ends : (list : List ℕ) (a z : ℕ) → Proper (wrap_ends c r list a z)
  unfolding wrap_ends
  proper_ends list a z = proper_bind (target c r a z) (into_target c list a) (proper_target a z) (proper_into c list a)

  proper_list : (list : List ℕ) → Proper (wrap_list c r list)
  unfolding wrap_list
  proper_list list = search (proper_parts, proper_ends)

  proper_members : (list : List ℕ) → Proper (wrap_members c r list)
  unfolding wrap_members
  proper_members list = search (proper_parts, proper_list)

  pub proper_wrap : (list : List ℕ) → Proper (wrap c r list)
  unfolding wrap
  proper_wrap list = search (proper_parts, proper_members)

-- a wrap that makes nothing
pub proper_wrap_found : (c : Criterion) (list : List ℕ) → Proper (wrap c Nothing list)
proper_wrap_found c list = proper_wrap c Nothing tt list
