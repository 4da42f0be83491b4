-- The ancestors of a node, from one of them on.
use Rattle.std.proofs.Common.{◌≡◌, ℕ, suc, ◌+◌, ◌<◌, Bool, true, false, List, [], ◌∷◌, ◌++◌, map, Option, Some, None, refl, sym, ap, ◌∙◌, arith}
use Rattle.std.specs.List.{list_any}
use Rattle.edit_model.specs.DomModel.declared.Content.{Content}
use Rattle.edit_model.specs.DomModel.Forest.{Forest, count_of, parent_of, depth_of, IsDistinct}
use Rattle.edit_model.proofs.DomModel.Parts.{at_label}
use Rattle.edit_model.proofs.DomModel.Within.{depth_of-parent}
use Rattle.wrap_split.specs.NodeStyles.Lineage.{Ancestor, lineage}
use Rattle.wrap_split.proofs.NodeStyles.Lineages.{ancestor, lineage-child, lineage-root}
use Rattle.edit_model.specs.NodeArena.declared.NodeRef.{NodeRef}
use Rattle.edit_model.specs.Gives.{label_of, labels_of}
use Rattle.edit_model.proofs.Steps.{labels_of_push}
use Rattle.inline_value.specs.Forcing.{ancestors}

-- a node, if there is one, and its ancestors
abbrev pub from : Forest Content → Option ℕ → List ℕ
from f None = []
from f (Some l) = map (λ k. k.label) (lineage f l)

-- how many these are at most
abbrev pub height : Forest Content → Option ℕ → ℕ
height f None = 0
height f (Some l) = suc (depth_of f l)

pub height_parent : (f : Forest Content) → IsDistinct f → (l : ℕ) → height f (parent_of f l) < height f (Some l)
height_parent f once l = by (parent_of f l) refl
  where
    by : (o : Option ℕ) → parent_of f l ≡ o → height f o < height f (Some l)
    by None up = omega arith
    by (Some p) up = let deep = depth_of-parent f l p once up in omega (arith, deep)

module _ (f : Forest Content) (once : IsDistinct f) (l : ℕ) (here : 0 < count_of f l) where
  by_parent : (o : Option ℕ) → parent_of f l ≡ o → map (λ k. k.label) (lineage f l) ≡ l ∷ from f o
  by_parent None up = let at = at_label f once l here in ap (λ ks. map (λ k. k.label) ks) (lineage-root f once l at.content here up at.content_is)
  by_parent (Some p) up = let at = at_label f once l here in ap (λ ks. map (λ k. k.label) ks) (lineage-child f once l p at.content up at.content_is)

  -- a node and its ancestors are the node, and its parent with its ancestors
  pub from_here : from f (Some l) ≡ l ∷ from f (parent_of f l)
  from_here = by_parent (parent_of f l) refl

  above_by : (o : Option ℕ) → parent_of f l ≡ o → ancestors f l ≡ from f o
  unfolding ancestors
  above_by None up = let at = at_label f once l here in rw (lineage-root f once l at.content here up at.content_is) refl
  above_by (Some p) up = let at = at_label f once l here in rw (lineage-child f once l p at.content up at.content_is) refl

  -- the ancestors of a node are its parent with its ancestors
  pub ancestors_from : ancestors f l ≡ from f (parent_of f l)
  ancestors_from = above_by (parent_of f l) refl

-- the first turn, one more, and that they end
pub listed_first : (f : Forest Content) → IsDistinct f → (l : ℕ) → 0 < count_of f l → (o : Option NodeRef) → label_of o ≡ parent_of f l
    → (xs : List NodeRef) → xs ≡ [] → labels_of xs ++ from f (label_of o) ≡ ancestors f l
listed_first f once l here o is xs none = rw (none, is) (sym (ancestors_from f once l here))

pub listed_next : (f : Forest Content) → IsDistinct f → (r : NodeRef) → 0 < count_of f r.label → (o : Option NodeRef) → label_of o ≡ parent_of f r.label
    → (xs ys : List NodeRef) → ys ≡ xs ++ (r ∷ []) → (whole : List ℕ) → labels_of xs ++ from f (Some r.label) ≡ whole → labels_of ys ++ from f (label_of o) ≡ whole
listed_next f once r here o is xs ys more whole before =
    rw (more, is) (labels_of_push xs r (from f (parent_of f r.label)) ∙ (ap (λ t. labels_of xs ++ t) (sym (from_here f once r.label here)) ∙ before))

pub lower_next : (f : Forest Content) → IsDistinct f → (l : ℕ) → (o : Option NodeRef) → label_of o ≡ parent_of f l → height f (label_of o) < height f (Some l)
lower_next f once l o is = rw is (height_parent f once l)

-- whether one of them passes: the nearest does, or it is left to the others
pub any_found : (P : ℕ → Bool) (p : ℕ) (xs ys : List ℕ) (b : Bool) → ys ≡ p ∷ xs → P p ≡ true → list_any P ys ≡ b → true ≡ b
any_found P p xs ys b is passes whole = sym (rw (is, passes) refl) ∙ whole

pub any_passed : (P : ℕ → Bool) (p : ℕ) (xs ys : List ℕ) (b : Bool) → ys ≡ p ∷ xs → P p ≡ false → list_any P ys ≡ b → list_any P xs ≡ b
any_passed P p xs ys b is fails whole = sym (rw (is, fails) refl) ∙ whole
