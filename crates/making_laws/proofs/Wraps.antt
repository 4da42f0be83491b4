-- Wrapping a list is tame, where what is made has a name that commands make, and attributes that they set.
use Rattle.std.proofs.Common.{◌≡◌, ℕ, true, List, Option}
use Rattle.inline_value.specs.WrapSplit.declared.rule.Criterion.{Criterion}
use Rattle.inline_value.specs.WrapSplit.declared.rule.Recipe.{Recipe}
use Rattle.inline_value.specs.WrapSplit.declared.rule.Recipe.TheVariants.{Nothing, Make}
use Rattle.inline_value.specs.WrapSplit.Target.{blank_of, made_of, made_by, target}
use Rattle.inline_value.specs.WrapSplit.Wrap.{append_break, prepend_break, separate_with_br, append_all, parted_front, prepend_all, moved_in, grow_at, insert_if_loose, drop_empty, drop_parent, move_children, merged, merge_next, filled_from, filled, into_target, wrap_ends, wrap_list, wrap_members, wrap}
use Rattle.making_laws.specs.Names.{is_made_name}
use Rattle.making_laws.specs.Tame.{Tame}
use Rattle.making_laws.proofs.Splits.{tame_breaks_from}
use Rattle.making_laws.proofs.TameRuns.{AreSet, tame_answer, tame_bind, tame_make, tame_parts, tame_moves}

pub tame_append_break : (p : ℕ) → Tame (append_break p)
unfolding append_break
tame_append_break p = search (tame_parts, tame_moves)

tame_prepend_break : (p : ℕ) → Tame (prepend_break p)
unfolding prepend_break
tame_prepend_break p = search (tame_parts, tame_moves)

tame_separate_with_br : (p : ℕ) (before after : Option ℕ) → Tame (separate_with_br p before after)
unfolding separate_with_br
tame_separate_with_br p before after = search (tame_parts, tame_append_break)

tame_append_all : (p : ℕ) (list : List ℕ) → Tame (append_all p list)
unfolding append_all
tame_append_all p list = search (tame_parts, tame_moves, tame_separate_with_br)

tame_parted_front : (p : ℕ) (list : List ℕ) → Tame (parted_front p list)
unfolding parted_front
tame_parted_front p list = search (tame_parts, tame_prepend_break)

tame_prepend_all : (p : ℕ) (list : List ℕ) → Tame (prepend_all p list)
unfolding prepend_all
tame_prepend_all p list = search (tame_parts, tame_moves, tame_parted_front)

tame_moved_in : (p : ℕ) (list : List ℕ) (a : ℕ) → Tame (moved_in p list a)
unfolding moved_in
tame_moved_in p list a = search (tame_parts, tame_append_all, tame_prepend_all)

tame_grow_at : (p : ℕ) → Tame (grow_at p)
unfolding grow_at
tame_grow_at p = search tame_parts

tame_insert_if_loose : (p a : ℕ) → Tame (insert_if_loose p a)
unfolding insert_if_loose
tame_insert_if_loose p a = search (tame_parts, tame_moves, tame_grow_at)

tame_drop_empty : (o : ℕ) → Tame (drop_empty o)
unfolding drop_empty
tame_drop_empty o = search tame_parts

tame_drop_parent : (o : Option ℕ) → Tame (drop_parent o)
unfolding drop_parent
tame_drop_parent o = search (tame_parts, tame_drop_empty)

tame_move_children : (p q : ℕ) → Tame (move_children p q)
unfolding move_children
tame_move_children p q = search (tame_parts, tame_moves)

tame_merged : (p q : ℕ) → Tame (merged p q)
unfolding merged
tame_merged p q = search (tame_parts, tame_separate_with_br, tame_move_children)

tame_merge_next : (c : Criterion) (p : ℕ) → Tame (merge_next c p)
unfolding merge_next
tame_merge_next c p = search (tame_parts, tame_merged)

tame_filled_from : (c : Criterion) (p : ℕ) (list : List ℕ) (a : ℕ) (o : Option ℕ) → Tame (filled_from c p list a o)
unfolding filled_from
tame_filled_from c p list a o = search (tame_parts, tame_moved_in, tame_drop_parent, tame_merge_next, tame_breaks_from)

tame_filled : (c : Criterion) (p : ℕ) (list : List ℕ) (a : ℕ) → Tame (filled c p list a)
unfolding filled
tame_filled c p list a = search (tame_parts, tame_insert_if_loose, tame_filled_from)

tame_into : (c : Criterion) (list : List ℕ) (a : ℕ) (p : Option ℕ) → Tame (into_target c list a p)
unfolding into_target
tame_into c list a p = search (tame_parts, tame_filled)

-- what a recipe makes has a name that commands make, and attributes that they set
abbrev pub MakesListed : Recipe → Type 0
MakesListed Nothing = Unit {0}
MakesListed (Make blank) = (is_made_name blank.name ≡ true) × AreSet blank.attributes

tame_made : (r : Recipe) → MakesListed r → Tame (made_by r)
unfolding made_by blank_of made_of
tame_made Nothing h = tame_answer _
tame_made (Make blank) h = tame_bind _ _ (tame_make blank.name blank.attributes h.0 h.1) (λ x. tame_answer _)

module _ (c : Criterion) (r : Recipe) (h : MakesListed r) where
  tame_target : (a z : ℕ) → Tame (target c r a z)
  unfolding target
  tame_target a z = let made = tame_made r h in search (tame_parts, made)

  tame_ends : (list : List ℕ) (a z : ℕ) → Tame (wrap_ends c r list a z)
  unfolding wrap_ends
  tame_ends list a z = tame_bind (target c r a z) (into_target c list a) (tame_target a z) (tame_into c list a)

  tame_list : (list : List ℕ) → Tame (wrap_list c r list)
  unfolding wrap_list
  tame_list list = search (tame_parts, tame_ends)

  tame_members : (list : List ℕ) → Tame (wrap_members c r list)
  unfolding wrap_members
  tame_members list = search (tame_parts, tame_list)

  pub tame_wrap : (list : List ℕ) → Tame (wrap c r list)
  unfolding wrap
  tame_wrap list = search (tame_parts, tame_members)

-- a wrap that makes nothing
pub tame_wrap_found : (c : Criterion) (list : List ℕ) → Tame (wrap c Nothing list)
tame_wrap_found c list = tame_wrap c Nothing tt list
