-- A node whose parent stands in a tree stands below the root of that tree.
use Rattle.std.proofs.Common.{◌≡◌, ℕ, ◌<◌, Bool, true, false, not, eqb, ◌&&◌, Option, Some, None, refl, ap, subst, ◌∙◌, inl, inr}
use Rattle.std.specs.Prelude.{nat_lt}
use Rattle.std.proofs.lemmas.Bool.{eqb-true, lt-ltb, ltb-true}
use Rattle.std.proofs.lemmas.Bool.Decides.{eqb_tells}
use Rattle.node_paths.specs.DomModel.declared.Content.{Content}
use Rattle.node_paths.specs.DomModel.Forest.{Forest, is_label, parent_of, count_of, tree_of, IsDistinct, IsWithin}
use Rattle.node_paths.proofs.DomModel.Move.{parent_apart}
use Rattle.node_paths.proofs.DomModel.Stands.{true_or_false}
use Rattle.node_paths.proofs.DomModel.Within.{within_child, within_step}
use Rattle.node_tests.specs.PointOrder.PointOrder.{is_ancestor}

pub parent_inside : (f : Forest Content) (t p l : ℕ) → IsDistinct f → 0 < count_of f t → parent_of f l ≡ Some p → IsWithin f t p → true ≡ is_ancestor f t l
parent_inside f t p l once here up inside = elim (eqb_tells t l) [
  | inl (_, same) ↦ absurd (parent_apart f l p once up (subst (λ k. IsWithin f k p) same inside))
  | inr (other, _) ↦ rw (other, lt-ltb 0 (count_of (tree_of f t) l) (within_child f t once here l p up inside)) refl
]

-- a sibling of the root of the tree doesn't
pub parent_outside : (f : Forest Content) (t p l : ℕ) → IsDistinct f → 0 < count_of f t → parent_of f l ≡ Some p → parent_of f t ≡ Some p → false ≡ is_ancestor f t l
parent_outside f t p l once here up above = elim (eqb_tells t l) [
  | inl (same, _) ↦ rw same refl
  | inr (other, off) ↦ elim (true_or_false (nat_lt 0 (count_of (tree_of f t) l))) [
    | inl inside ↦ absurd (parent_apart f t p once above (within_step f t once here l p off up (ltb-true 0 (count_of (tree_of f t) l) inside)))
    | inr outside ↦ rw (other, outside) refl
  ]
]

pub label_is : (o : Option ℕ) (p : ℕ) → is_label o p ≡ true → o ≡ Some p
label_is None p h = absurd (cc)
label_is (Some m) p h = ap Some (eqb-true m p h)
