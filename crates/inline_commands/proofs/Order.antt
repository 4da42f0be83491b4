-- One node above another, and which of two begins first.
use Rattle.std.proofs.Common.{◌≡◌, ◌≢◌, ℕ, zero, suc, ◌<◌, true, false, not, refl, sym, ap, subst, ◌∙◌, inl, inr, arith, eqb, nat_lt, Some}
use Rattle.std.proofs.lemmas.Bool.{and_parts, le-ltb}
use Rattle.std.proofs.lemmas.Bool.Decides.{eqb_tells, nat_tests}
use Rattle.edit_model.specs.DomModel.declared.Content.{Content}
use Rattle.edit_model.specs.DomModel.Forest.{Forest, count_of, IsDistinct, IsWithin, tree_of, parent_of}
use Rattle.edit_model.specs.DomModel.Places.{index_of}
use Rattle.edit_model.proofs.DomModel.Earlier.{first_of_two-within, first_of_two-swap}
use Rattle.edit_model.proofs.DomModel.Links.{tree_of_absent, eqb_refl_true}
use Rattle.edit_model.specs.LiveRange.declared.places.Point.{Point}
use Rattle.edit_model.specs.PointOrder.PointOrder.{is_ancestor, is_before, is_within}
use Rattle.inline_value.specs.NodeTests.Listing.{LiesAfter, LiesBefore}
use Rattle.inline_value.proofs.NodeTests.Reaching.{after_it, before_it, child_with}
use Rattle.edit_model.proofs.Trees.{within_trans}
use Rattle.inline_commands.proofs.Ancestors.{and_false, none_told}

pub some_count : (n : ℕ) → nat_lt 0 n ≡ true → 0 < n
some_count n h = grind (arith, nat_tests)

pub own_front : (f : Forest Content) (p : Point) (l : ℕ) → p.label ≡ l → is_before f p (record { label = l; offset = 0 }) ≡ false
unfolding is_before
own_front f p l is = rw (is, eqb_refl_true l) (le-ltb p.offset 0 (omega arith))

module _ (f : Forest Content) (once : IsDistinct f) where
  apart_labels : (p q : ℕ) → (not (eqb p q)) ≡ true → p ≢ q
  apart_labels p q e = elim (eqb_tells p q) [ inl (t, _) ↦ absurd (let u : false ≡ true = ap not (sym t) ∙ e in cc) | inr (_, off) ↦ off ]

  pub above_parts : (p q : ℕ) → is_ancestor f p q ≡ true → (p ≢ q) × IsWithin f p q
  above_parts p q e = let r = and_parts (not (eqb p q)) (is_within f p q) e in (apart_labels p q r.0, some_count (count_of (tree_of f p) q) r.1)

  pub above_is : (p q : ℕ) → p ≢ q → IsWithin f p q → is_ancestor f p q ≡ true
  above_is p q off inside = elim (eqb_tells p q) [ inl (_, same) ↦ absurd (off same) | inr (t, _) ↦ rw t (grind (arith, nat_tests, inside)) ]

  pub above_off : (p q : ℕ) → (IsWithin f p q → ⊥) → is_ancestor f p q ≡ false
  above_off p q out = and_false (not (eqb p q)) (is_within f p q) (none_told (count_of (tree_of f p) q) out)

  -- of two nodes not each stands below the other
  pub one_way : (p q : ℕ) → IsWithin f p q → IsWithin f q p → p ≡ q
  one_way p q down up =
      let first = first_of_two-within f p q once down in
      let second = first_of_two-within f q p once up in
      let t : Some p ≡ Some q = sym first ∙ (first_of_two-swap f p q ∙ second) in
      cc

  -- what stands above an ancestor is one
  pub above_through : (p q l : ℕ) → p ≢ q → IsWithin f p q → is_ancestor f q l ≡ true → is_ancestor f p l ≡ true
  above_through p q l off inside e =
      let low = (above_parts q l e).1 in
      above_is p l (λ same. off (one_way p q inside (subst (λ x. IsWithin f q x) (sym same) low))) (within_trans f p q l once inside low)

  there : (p q : ℕ) → IsWithin f p q → 0 < count_of f p
  there p q inside = by_count (count_of f p) refl
    where
      by_count : (n : ℕ) → count_of f p ≡ n → 0 < count_of f p
      by_count zero e = absurd (let none = ap (λ g. count_of g q) (tree_of_absent f p e) in omega (arith, none, inside))
      by_count (suc n) e = omega (arith, e)

  -- a child of a node toward another one that stands below it
  pub child_of : (p q : ℕ) → p ≢ q → IsWithin f p q → (k : ℕ) × (parent_of f k ≡ Some p) × IsWithin f k q
  child_of p q off inside = child_with f once p q (there p q inside) inside off

  after_front : (p q : ℕ) → p ≢ q → IsWithin f p q → (k : ℕ) × LiesAfter f (record { label = p; offset = 0 }) k × IsWithin f k q
  after_front p q off inside =
      let k = child_of p q off inside in
      (k.0, after_it f once (record { label = p; offset = 0 }) p k.0 k.1 (inl (refl, omega arith)), k.2)

  -- a node begins before what stands below it
  pub begins_first : (p q : ℕ) → p ≢ q → IsWithin f p q → is_before f (record { label = p; offset = 0 }) (record { label = q; offset = 0 }) ≡ true
  begins_first p q off inside = let k = after_front p q off inside in k.1.comes q 0 k.2

  -- no point of its tree comes before the node's beginning
  pub none_earlier : (p : ℕ) (at : Point) → IsWithin f p at.label → is_before f at (record { label = p; offset = 0 }) ≡ false
  none_earlier p at inside =
      elim (eqb_tells p at.label) [
        | inl (_, same) ↦ own_front f at p (sym same)
        | inr (_, off) ↦ (let k = after_front p at.label off inside in k.1.none at.label at.offset k.2)
      ]

  -- what stands below a child comes before what stands below a later one
  pub sibling_before : (top k c : ℕ) (p : Point) → parent_of f k ≡ Some top → parent_of f c ≡ Some top → index_of f k < index_of f c → IsWithin f c p.label → LiesBefore f p k
  sibling_before top k c p child other low inside = before_it f once p top k child (inr (c, other, inside, low))
