-- The child at a place among the children of a node.
use Rattle.std.proofs.Common.{◌≡◌, ℕ, zero, suc, ◌<◌, ◌≤◌, List, [], ◌∷◌, Option, Some, None, refl, ap, ◌∙◌, inl, inr, arith, add-one}
use Rattle.std.specs.Prelude.{slice_get}
use Rattle.std.specs.Option.{option_map_or}
use Rattle.std.proofs.lemmas.Bool.Decides.{eqb_tells}
use Rattle.edit_model.specs.DomModel.declared.Content.{Content}
use Rattle.edit_model.specs.DomModel.Forest.{Forest, Seen, seek, IsDistinct, times, parent_of, children_of}
use Rattle.edit_model.specs.DomModel.Places.{place_in, index_of}
use Rattle.edit_model.proofs.DomModel.Links.{parent_of_child, found_stands, times-children_of}

get_times : (xs : List ℕ) (i k : ℕ) → slice_get xs i ≡ Some k → 0 < times xs k
get_times [] i k e = absurd (let t = e in cc)
get_times (x ∷ xs) zero k e =
    let is : x ≡ k = (let t = e in cc) in
    elim (eqb_tells x k) [ inl (t, _) ↦ rw t (omega arith) | inr (_, off) ↦ absurd (off is) ]
get_times (x ∷ xs) (suc i) k e = omega (arith, get_times xs i k e)

place_is : (xs : List ℕ) (i k : ℕ) → ((j : ℕ) → times xs j ≤ 1) → slice_get xs i ≡ Some k → place_in xs k ≡ i
place_is [] i k once e = absurd (let t = e in cc)
place_is (x ∷ xs) zero k once e =
    let is : x ≡ k = (let t = e in cc) in
    elim (eqb_tells x k) [ inl (t, _) ↦ rw t refl | inr (_, off) ↦ absurd (off is) ]
place_is (x ∷ xs) (suc i) k once e =
    elim (eqb_tells x k) [
      | inl (t, _) ↦ absurd (let one = rw t at (once k) in omega (arith, one, get_times xs i k e))
      | inr (t, _) ↦ rw (t, add-one) (ap suc (place_is xs i k (λ j. omega (arith, once j)) e))
    ]

module _ (f : Forest Content) (once : IsDistinct f) where
  pub parent_at : (p i k : ℕ) → slice_get (children_of f p) i ≡ Some k → parent_of f k ≡ Some p
  parent_at p i k e = by_seen (seek None f p) refl (get_times (children_of f p) i k e)
    where
      by_seen : (o : Option (Seen Content)) → seek None f p ≡ o → 0 < times (option_map_or (λ s. s.children) o []) k → parent_of f k ≡ Some p
      by_seen None e t = absurd (omega (arith, t))
      by_seen (Some s) e t = parent_of_child f p k s once (found_stands f p s once e) t

  pub index_at : (p i k : ℕ) → slice_get (children_of f p) i ≡ Some k → index_of f k ≡ i
  index_at p i k e =
      ap (λ o. option_map_or (λ q. place_in (children_of f q) k) o 0) (parent_at p i k e) ∙ place_is (children_of f p) i k (λ j. times-children_of f p j once) e
