-- What is appended for one more element of a list.
use Rattle.std.proofs.Common.{◌≡◌, ℕ, ◌+◌, ◌<◌, Some, slice_get, zero, suc, refl, arith, List, [], ◌∷◌, ◌++◌, length, take, get_or, sym, ap, ◌∙◌, append_assoc}
use Rattle.std.specs.List.{flat_map}
use Rattle.std.proofs.lemmas.List.{take_more, append-nil}
use Rattle.std.proofs.lemmas.Option.{get_or_from_slice_get}
use Rattle.std.proofs.lemmas.Grind.{flat_map-append}

module _ {X : Type 0} where
  pub pieces-more : (g : X → List ℕ) (xs : List X) (i : ℕ) (x : X) (old out new : List ℕ) → i < length xs → x ≡ get_or xs i x → out ≡ old ++ flat_map g (take i xs) → new ≡ out ++ g x → new ≡ old ++ flat_map g (take (i + 1) xs)
  pieces-more g xs i x old out new within is before after =
      let one : take (i + 1) xs ≡ take i xs ++ x ∷ [] = take_more xs i x within ∙ ap (λ y. take i xs ++ y ∷ []) (sym is) in
      let split : flat_map g (take i xs ++ x ∷ []) ≡ flat_map g (take i xs) ++ flat_map g (x ∷ []) = flat_map-append g (take i xs) (x ∷ []) in
      let single : flat_map g (x ∷ []) ≡ g x = append-nil (g x) in
      let joined : flat_map g (take i xs) ++ g x ≡ flat_map g (take (i + 1) xs) =
      ap (λ y. flat_map g (take i xs) ++ y) (sym single) ∙ sym split ∙ ap (flat_map g) (sym one) in
      let regrouped : (old ++ flat_map g (take i xs)) ++ g x ≡ old ++ (flat_map g (take i xs) ++ g x) = append_assoc old (flat_map g (take i xs)) (g x) in
      after ∙ ap (λ y. y ++ g x) before ∙ regrouped ∙ ap (λ y. old ++ y) joined

  -- the element that stands at i
  element : (xs : List X) (i : ℕ) → i < length xs → (x : X) × (slice_get xs i ≡ Some x)
  element [] i within = absurd (omega (arith, within))
  element (x ∷ xs) zero within = (x, refl)
  element (x ∷ xs) (suc i) within = element xs i (omega arith)

  -- the same, where what is appended is known of the element that stands at i
  pub pieces-through : (g : X → List ℕ) (xs : List X) (i : ℕ) (old out new : List ℕ) → i < length xs → out ≡ old ++ flat_map g (take i xs) → ((x : X) → slice_get xs i ≡ Some x → new ≡ out ++ g x) → new ≡ old ++ flat_map g (take (i + 1) xs)
  pieces-through g xs i old out new within before after =
      let here = element xs i within in
      pieces-more g xs i here.0 old out new within (sym (get_or_from_slice_get xs i here.0 here.0 here.1)) before (after here.0 here.1)
