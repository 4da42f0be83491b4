-- Reordering modifiable descendants keeps the order, and leaves the states of contenteditable.
use Rattle.std.proofs.Common.{◌≡◌, ◌≢◌, ◌⊎◌, ℕ, ◌<◌, Bool, true, false, ◌&&◌, ◌||◌, not, eqb, if◌then◌else◌, List, Option, Some, None, is_none, refl, sym, subst, inl, inr}
use Rattle.std.proofs.lemmas.Bool.{eqb-false}
use Rattle.edit_model.specs.DomModel.Forest.{IsWithin, count_of, parent_of, next_of, first_of}
use Rattle.edit_model.proofs.DomModel.Links.{parent_count}
use Rattle.edit_model.proofs.DomModel.Neighbours.{parent_of-first}
use Rattle.edit_model.proofs.DomModel.Within.{within_self, within_child}
use Rattle.edit_model.specs.HtmlNames.declared.commands.Command.{Command}
use Rattle.inline_value.specs.CommandValue.Modifiable.{is_modifiable, is_simple_modifiable, meets_value}
use Rattle.edit_model.specs.State.{State}
use Rattle.edit_model.specs.Valid.{IsValid}
use Rattle.edit_model.specs.Run.{final, done}
use Rattle.edit_model.proofs.Steps.{final-look}
use Rattle.edit_laws.specs.Order.{KeepsOrder, IsKeeping}
use Rattle.edit_laws.specs.Steady.{Steady}
use Rattle.edit_laws.specs.OrderPreserving.{OrderPreserving}
use Rattle.edit_laws.proofs.Lines.{holder_there}
use Rattle.edit_laws.proofs.SteadyRuns.{steady_parts}
use Rattle.edit_laws.proofs.Swapping.{change_places}
use Rattle.edit_laws.proofs.OrderPreserving.{order_preserving_answer}
use Rattle.inline_value.specs.WrapSplit.Walks.{turn_bound}
use Rattle.inline_value.specs.Reordering.{gives_value, if_sole, sole_child, reorder_step, reordered, swapped, reorder_with, reorder}
use Rattle.command_laws.proofs.Cleared.{walk_keeps}
use Rattle.command_laws.proofs.SteadyMoves.{steady_moves}
use Rattle.command_laws.proofs.Criteria.{first_part, modifiable_bare, modifiable_no_break}

-- ---- where the walk leads

-- the node is n, or below it
abbrev Below : State → ℕ → ℕ → Type 0
Below s n r = (r ≡ n) ⊎ IsWithin s.trees n r

module _ (s : State) (is : IsValid s) (n : ℕ) (command : Command) (v : List ℕ) where
  child_below : (r m : ℕ) → Below s n r → parent_of s.trees m ≡ Some r → Below s n m
  child_below r m (inl same) up =
      let once = is.forest.distinct in
      let here : 0 < count_of s.trees n = subst (λ k. 0 < count_of s.trees k) same (parent_count s.trees m r once up).1 in
      inr (within_child s.trees n once here m r up (subst (λ k. IsWithin s.trees n k) (sym same) (within_self s.trees n once here)))
  child_below r m (inr h) up = inr (within_child s.trees n is.forest.distinct (holder_there s.trees n r h) m r up h)

  step_below : (r m : ℕ) → Below s n r → reorder_step s.trees command v r ≡ Some m → Below s n m
  unfolding reorder_step
  step_below r m h e = by_test (is_modifiable s.trees r && not (gives_value s.trees r command v)) e
    where
      by_sole : (k : ℕ) → first_of s.trees r ≡ Some k → (w : Bool) → (if w then Some k else None) ≡ Some m → Below s n m
      by_sole k first true same = (let is_m : k ≡ m = (let t = same in cc) in subst (λ x. Below s n x) is_m (child_below r k h (parent_of-first s.trees is.forest.distinct r k first)))
      by_sole k first false same = absurd (let t = same in cc)

      by_first : (o : Option ℕ) → first_of s.trees r ≡ o → if_sole s.trees o ≡ Some m → Below s n m
      by_first None first same = absurd (let t = same in cc)
      by_first (Some k) first same = by_sole k first (is_none (next_of s.trees k) && is_modifiable s.trees k) same

      by_test : (w : Bool) → (if w then sole_child s.trees r else None) ≡ Some m → Below s n m
      by_test true same = by_first (first_of s.trees r) refl same
      by_test false same = absurd (let t = same in cc)

  reordered_below : Below s n (reordered s command v n)
  unfolding reordered
  reordered_below = walk_keeps (λ r. Below s n r) (reorder_step s.trees command v) step_below (turn_bound s) n (inl refl)

-- ---- the order

value_simple : (s : State) (c : ℕ) (command : Command) (v : List ℕ) → meets_value s.trees c command v ≡ true → is_simple_modifiable s.trees c ≡ true
unfolding meets_value
value_simple s c command v h = first_part (is_simple_modifiable s.trees c) _ (first_part _ _ h)

swapped_keeps : (s : State) → IsKeeping s → (n c : ℕ) → IsWithin s.trees n c → n ≢ c → is_simple_modifiable s.trees c ≡ true → KeepsOrder s (final (swapped n c) s)
unfolding swapped
swapped_keeps s is n c inside off simple = rw final-look (change_places s is n c inside off (modifiable_bare s c simple) (modifiable_no_break s c simple))

with_keeps : (s : State) → IsKeeping s → (command : Command) (v : List ℕ) (n c : ℕ) → Below s n c → KeepsOrder s (final (reorder_with command v n c) s)
unfolding reorder_with
with_keeps s is command v n c below = rw final-look (by_test (eqb c n) (meets_value s.trees c command v) refl refl below)
  where
    by_test : (u w : Bool) → eqb c n ≡ u → meets_value s.trees c command v ≡ w → Below s n c → KeepsOrder s (final (if u || not w then done else swapped n c) s)
    by_test true w e h k = (order_preserving_answer tt).keeps s is
    by_test false false e h k = (order_preserving_answer tt).keeps s is
    by_test false true e h (inl same) = absurd (eqb-false c n e same)
    by_test false true e h (inr inside) = swapped_keeps s is n c inside (λ same. eqb-false c n e (sym same)) (value_simple s c command v h)

pub order_preserving_reorder : (command : Command) (v : List ℕ) (n : ℕ) → OrderPreserving (reorder command v n)
unfolding reorder
order_preserving_reorder command v n = record { keeps = λ s is. rw final-look (with_keeps s is command v n (reordered s command v n) (reordered_below s is.valid n command v)) }

-- ---- the states of contenteditable

steady_swapped : (n c : ℕ) → Steady (swapped n c)
unfolding swapped
steady_swapped n c = search (steady_parts, steady_moves) depth 10

steady_with : (command : Command) (v : List ℕ) (n c : ℕ) → Steady (reorder_with command v n c)
unfolding reorder_with
steady_with command v n c = search (steady_parts, steady_swapped)

pub steady_reorder : (command : Command) (v : List ℕ) (n : ℕ) → Steady (reorder command v n)
unfolding reorder
steady_reorder command v n = search (steady_parts, steady_with)
