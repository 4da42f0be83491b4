-- A test of each element of a list, element by element.
use Rattle.std.proofs.Common.{◌≡◌, ℕ, zero, suc, ◌+◌, ◌<◌, Bool, true, false, ◌&&◌, List, [], ◌∷◌, length, get_or, drop, Some, None, refl, sym, ap, ◌∙◌, inl, inr, arith, add-one, drop-cons}
use Rattle.std.specs.List.{list_all, slice_get}
use Rattle.std.proofs.lemmas.Option.{slice_get_within, slice_get_cases, get_or_from_slice_get}

-- where an element fails the test, not each passes
pub all_fails : {X : Type 0} (p : X → Bool) (xs : List X) (k : ℕ) (x : X) → slice_get xs k ≡ Some x → p x ≡ false → list_all p xs ≡ false
all_fails p [] k x at fails = absurd (let t : None ≡ Some x = at in cc)
all_fails p (y ∷ ys) zero x at fails = let same : y ≡ x = (let t : Some y ≡ Some x = at in cc) in rw (same, fails) refl
all_fails p (y ∷ ys) (suc k) x at fails =
    elim (p y) as (λ v. (v && list_all p ys) ≡ false) [ true ↦ all_fails p ys k x at fails | false ↦ refl ]

drop_at : {X : Type 0} (xs : List X) (k : ℕ) (x : X) → slice_get xs k ≡ Some x → drop k xs ≡ x ∷ drop (k + 1) xs
drop_at xs k x at =
    let within : k < length xs = slice_get_within xs k x at in
    let own : get_or xs k x ≡ x = get_or_from_slice_get xs k x x at in
    rw (add-one, drop-cons xs k x) (ap (λ y. y ∷ drop (suc k) xs) own)

-- past an element that passes, those that are left still decide
pub all_past : {X : Type 0} (p : X → Bool) (xs : List X) (k : ℕ) (x : X) → slice_get xs k ≡ Some x → p x ≡ true → list_all p (drop k xs) ≡ list_all p xs → list_all p (drop (k + 1) xs) ≡ list_all p xs
all_past p xs k x at passes left =
    sym (ap (λ ys. list_all p ys) (drop_at xs k x at) ∙ ap (λ v. v && list_all p (drop (k + 1) xs)) passes) ∙ left

-- each place below the length has an element
pub has_element : {X : Type 0} (xs : List X) (k : ℕ) → k < length xs → slice_get xs k ≡ None → ⊥
has_element xs k within none =
    elim (slice_get_cases xs k).1 [
      | inl (x, _, at, _) ↦ (let t : None ≡ Some x = sym none ∙ at in absurd (cc))
      | inr (past, _) ↦ absurd (omega arith)
    ]
