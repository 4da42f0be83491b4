-- Runs that are known at a state: that they keep the order from it, and leave the states of contenteditable. And series of
-- siblings, which are consecutive when their turn comes.
use Rattle.std.proofs.Common.{◌≡◌, ℕ, ◌+◌, zero, suc, Bool, true, false, if◌then◌else◌, List, [], ◌∷◌, ◌++◌, length, take, Option, Some, None, refl, sym, ap, subst, ◌∙◌, arith, append_assoc, add-one}
use Rattle.std.specs.Option.{option_map_or, option_and_then}
use Rattle.edit_model.specs.DomModel.declared.Content.{Content}
use Rattle.edit_model.specs.DomModel.Forest.{Seen, last_in, after_in, parent_of, children_of, next_of}
use Rattle.edit_model.proofs.DomModel.Links.{child_of_parent}
use Rattle.edit_model.specs.State.{State}
use Rattle.edit_model.specs.Valid.{IsValid}
use Rattle.edit_model.specs.Run.{Run, final, value, ◌>>=◌, look}
use Rattle.edit_model.proofs.Steps.{final-bind, final-look}
use Rattle.edit_model.proofs.Tests.{label_is}
use Rattle.edit_laws.specs.Steady.{SteadyOn}
use Rattle.edit_laws.specs.Order.{KeepsOrder, IsKeeping}
use Rattle.edit_laws.proofs.QuietActions.{keeping_final}
use Rattle.edit_laws.proofs.Subsequences.{keeps_trans}
use Rattle.inline_value.specs.WrapSplit.declared.rule.Criterion.{Criterion}
use Rattle.inline_value.specs.WrapSplit.declared.rule.Recipe.{Recipe}
use Rattle.inline_value.specs.WrapSplit.Split.{split_parent}
use Rattle.inline_value.specs.WrapSplit.Wrap.{wrap}
use Rattle.inline_value.specs.BlockExtend.Series.{count_after, is_next}
use Rattle.list_indent.specs.Series.{take_series, series_at_most, for_series}
use Rattle.command_laws.specs.WrapLaws.{NamesNoThing, MakesNoThing, MakesNoState}
use Rattle.command_laws.proofs.Splitting.{parted, split_keeps, order_preserving_split_one}
use Rattle.command_laws.proofs.SteadySplits.{at_bind, at_look, valid_final, steady_split}
use Rattle.command_laws.proofs.SteadyWraps.{steady_wrap}
use Rattle.command_laws.proofs.Fits.{Fit, fit, fit_answer}
use Rattle.command_laws.proofs.Widening.{Siblings, pushed-last, one_after, same_list}
use Rattle.command_laws.proofs.Wrapping.{wrap_keeps, order_preserving_wrap_one}

-- ---- from one state

pub record FitAt {T : Type 0} (s : State) (m : Run T) : Type 0 where
  pub order : IsKeeping s → KeepsOrder s (final m s)
  pub states : SteadyOn (m.by_actions s)

pub at_once : {T : Type 0} (m : Run T) (s : State) → IsValid s → Fit m → FitAt s m
at_once m s is h = record { order = λ k. h.order.keeps s k; states = h.states.leaves s is }

pub looking : {T : Type 0} (k : State → Run T) (s : State) → FitAt s (k s) → FitAt s (look k)
looking k s h = record { order = λ is. rw (final-look k s) (h.order is); states = at_look k s h.states }

pub onwards : {A B : Type 0} (m : Run A) (k : A → Run B) (s : State) → FitAt s m → FitAt (final m s) (k (value m s)) → FitAt s (m >>= k)
onwards m k s h g = record {
  order = λ is. rw (final-bind m k s) (keeps_trans (h.order is) (g.order (keeping_final m s is)));
  states = at_bind m k s h.states g.states;
}

-- what follows is fit from every state
pub then_fit : {A B : Type 0} (m : Run A) (k : A → Run B) (s : State) → IsValid s → FitAt s m → ((a : A) → Fit (k a)) → FitAt s (m >>= k)
then_fit m k s is h g = onwards m k s h (at_once (k (value m s)) (final m s) (valid_final m s is) (g (value m s)))

-- a run that looks, and is known to be fit from the state that it sees
pub fit_seen : {T : Type 0} (k : State → Run T) → ((s : State) → IsValid s → FitAt s (k s)) → Fit (look k)
fit_seen k h = fit
    (record { keeps = λ s is. rw (final-look k s) ((h s is.valid).order is) })
    (record { leaves = λ s is. at_look k s (h s is).states })

-- ---- consecutive siblings, in order; or one node alone

pub data Consecutive (s : State) (list : List ℕ) : Type 0 where
  alone : (x : ℕ) → list ≡ x ∷ [] → Consecutive s list
  among : (o : ℕ) → Siblings s o list → Consecutive s list

pub consecutive_keeps : (c : Criterion) (r : Recipe) → NamesNoThing c → MakesNoThing r → (s : State) → IsKeeping s → (list : List ℕ) → Consecutive s list → KeepsOrder s (final (wrap c r list) s)
consecutive_keeps c r plain makes s is list (alone x e) = subst (λ l. KeepsOrder s (final (wrap c r l) s)) (sym e) ((order_preserving_wrap_one c r x plain makes).keeps s is)
consecutive_keeps c r plain makes s is list (among o w) = wrap_keeps c r w.front list w.rest o s plain makes is w.is

pub wrap_fits : (c : Criterion) (r : Recipe) → NamesNoThing c → MakesNoThing r → MakesNoState r → (s : State) (list : List ℕ) → IsValid s → Consecutive s list → FitAt s (wrap c r list)
wrap_fits c r plain makes none s list is k = record { order = λ keeping. consecutive_keeps c r plain makes s keeping list k; states = (steady_wrap c r none list).leaves s is }

pub split_fits : (s : State) (list : List ℕ) → IsValid s → Consecutive s list → FitAt s (split_parent list)
split_fits s list is k = record { order = λ keeping. by k keeping; states = (steady_split list).leaves s is }
  where
    by : Consecutive s list → IsKeeping s → KeepsOrder s (final (split_parent list) s)
    by (alone x e) keeping = subst (λ l. KeepsOrder s (final (split_parent l) s)) (sym e) ((order_preserving_split_one x).keeps s keeping)
    by (among o w) keeping = split_keeps w.front list w.rest o s keeping w.is

-- ---- series

module _ (s : State) (is : IsValid s) (on : ℕ → ℕ → Bool) (nexts : (x y : ℕ) → on x y ≡ true → next_of s.trees x ≡ Some y) where
  grown : (o : ℕ) (list : List ℕ) (z : ℕ) → Siblings s o list → last_in list ≡ Some z → (xs : List ℕ) → Siblings s o (list ++ take (count_after on z xs) xs)
  grown o list z w last [] = same_list s is o list w
  grown o list z w last (y ∷ ys) = by_test (on z y) refl (λ longer. grown o (list ++ y ∷ []) y longer (pushed-last None list y) ys)
    where
      by_test : (v : Bool) → on z y ≡ v → (Siblings s o (list ++ y ∷ []) → Siblings s o ((list ++ y ∷ []) ++ take (count_after on y ys) ys)) → Siblings s o (list ++ take (if v then count_after on y ys + 1 else 0) (y ∷ ys))
      by_test false e more = same_list s is o list w
      by_test true e more =
          let count : count_after on y ys + 1 ≡ suc (count_after on y ys) = omega arith in
          subst (Siblings s o) (append_assoc list (y ∷ []) (take (count_after on y ys) ys) ∙ ap (λ j. list ++ take j (y ∷ ys)) (sym count))
          (more (one_after s is o list z y w last (nexts z y e)))

  -- nothing goes on from a node without a parent
  ended : (x : ℕ) → parent_of s.trees x ≡ None → (xs : List ℕ) → take (count_after on x xs) xs ≡ []
  ended x root [] = refl
  ended x root (y ∷ ys) = by_test (on x y) refl
    where
      by_test : (v : Bool) → on x y ≡ v → take (if v then count_after on y ys + 1 else 0) (y ∷ ys) ≡ []
      by_test false e = refl
      by_test true e = absurd (let k : None ≡ Some y = sym (ap (λ p. option_and_then (λ q. after_in (children_of s.trees q) x) p) root) ∙ nexts x y e in cc)

  pub series_consecutive : (x : ℕ) (xs : List ℕ) → Consecutive s (x ∷ take (count_after on x xs) xs)
  series_consecutive x xs = by_parent (parent_of s.trees x) refl
    where
      by_parent : (p : Option ℕ) → parent_of s.trees x ≡ p → Consecutive s (x ∷ take (count_after on x xs) xs)
      by_parent None root = alone x (ap (λ k. x ∷ k) (ended x root xs))
      by_parent (Some o) up =
          let w = child_of_parent s.trees x o is.forest.distinct up in
          let own : children_of s.trees o ≡ w.0.children = ap (λ (k : Option (Seen Content)). option_map_or (λ (y : Seen Content). y.children) k []) w.2 in
          let p = parted w.0.children x w.3 in
          among o (grown o (x ∷ []) x (record { front = p.0; rest = p.1; is = own ∙ p.2 }) refl xs)

-- each series is as the state has it when its turn comes
module _ (on : State → ℕ → ℕ → Bool) (body : List ℕ → Run (Unit {0})) (nexts : (s : State) (x y : ℕ) → on s x y ≡ true → is_next s.trees x y ≡ true)
    (fits : (s : State) (list : List ℕ) → IsValid s → Consecutive s list → FitAt s (body list)) where
  first_consecutive : (s : State) → IsValid s → (x : ℕ) (xs : List ℕ) → Consecutive s (take_series (on s) (x ∷ xs)).0
  unfolding is_next
  first_consecutive s is x xs =
      subst (Consecutive s) (ap (λ j. take j (x ∷ xs)) (sym (add-one (count_after (on s) x xs))))
      (series_consecutive s is (on s) (λ x y h. label_is (next_of s.trees x) y (nexts s x y h)) x xs)

  fit_turns : (n : ℕ) (list : List ℕ) → Fit (series_at_most n on body list)
  unfolding series_at_most
  fit_turns zero list = fit_answer tt
  fit_turns (suc n) [] = fit_answer tt
  fit_turns (suc n) (x ∷ xs) = fit_seen _ (λ s is. (
      let series = take_series (on s) (x ∷ xs) in
      then_fit (body series.0) (λ _. series_at_most n on body series.1) s is (fits s series.0 is (first_consecutive s is x xs)) (λ _. fit_turns n series.1)))

  pub fit_series : (list : List ℕ) → Fit (for_series on body list)
  unfolding for_series
  fit_series list = fit_turns (length list) list
