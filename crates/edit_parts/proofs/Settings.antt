-- Lists that are overwritten one place after another.
use Rattle.std.proofs.Common.{◌≡◌, ℕ, zero, suc, ◌+◌, ◌<◌, List, [], ◌∷◌, ◌++◌, length, drop, refl, ap, arith, add-one}
use Rattle.std.specs.Prelude.{replicate, slice_set}

module _ {A : Type 0} (x : A) where
  set_at : (i : ℕ) (xs : List A) → i < length xs → slice_set (replicate i x ++ drop i xs) i x ≡ replicate (suc i) x ++ drop (suc i) xs
  set_at i [] h = absurd (omega (arith, h))
  set_at zero (y ∷ ys) h = refl
  set_at (suc i) (y ∷ ys) h = ap (λ r. x ∷ r) (set_at i ys (omega arith))

  pub set_next : (i : ℕ) (xs : List A) → i < length xs → slice_set (replicate i x ++ drop i xs) i x ≡ replicate (i + 1) x ++ drop (i + 1) xs
  set_next i xs h = rw add-one (set_at i xs h)

  pub all_set : (n : ℕ) (xs : List A) → length xs ≡ n → replicate n x ++ drop n xs ≡ replicate n x
  all_set zero [] h = refl
  all_set zero (y ∷ ys) h = absurd (omega (arith, h))
  all_set (suc n) [] h = absurd (omega (arith, h))
  all_set (suc n) (y ∷ ys) h = ap (λ r. x ∷ r) (all_set n ys (omega (arith, h)))
