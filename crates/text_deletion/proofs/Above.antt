-- A walk over the ancestors of a node that looks for one that passes.
use Rattle.std.proofs.Common.{◌≡◌, ℕ, Bool, true, false, List, ◌∷◌, refl, sym, ◌∙◌}
use Rattle.std.specs.List.{list_any}

module _ (P : ℕ → Bool) (p : ℕ) (xs ys : List ℕ) (b : Bool) (is : ys ≡ p ∷ xs) where
  pub found : P p ≡ true → list_any P ys ≡ b → true ≡ b
  found passes whole = sym (rw (is, passes) refl) ∙ whole

  pub passed : P p ≡ false → list_any P ys ≡ b → list_any P xs ≡ b
  passed fails whole = sym (rw (is, fails) refl) ∙ whole
