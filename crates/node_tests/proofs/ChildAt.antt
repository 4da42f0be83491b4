-- The child at an offset, by steps from the first child.
use Rattle.std.proofs.Common.{◌≡◌, ℕ, ◌+◌, ◌<◌, List, ◌∷◌, Option, Some, None, refl, sym, ap, ◌∙◌, add-one}
use Rattle.std.specs.Prelude.{slice_get}
use Rattle.node_styles.specs.DomModel.declared.Content.{Content}
use Rattle.node_styles.specs.DomModel.Forest.{Forest, join, tops, count_of, IsDistinct, parent_of, children_of, first_of, next_of}
use Rattle.node_styles.specs.DomModel.Forest.Forest.{Nil, Tree}
use Rattle.node_styles.specs.DomModel.Places.{onward}
use Rattle.node_styles.proofs.DomModel.Links.{parent_count}
use Rattle.node_tests.specs.Listing.{siblings}
use Rattle.node_tests.proofs.Inside.{tree_is_kids, onward_is_tree}
use Rattle.node_tests.proofs.Around.{content_at, own_tree}

module _ (f : Forest Content) (once : IsDistinct f) where
  pub children_are : (l : ℕ) → 0 < count_of f l → children_of f l ≡ tops (siblings f (first_of f l))
  children_are l here =
      let c = content_at f once l here in
      let t = own_tree f once l c.0 here c.1 in
      let e : Tree l c.0 t.0 Nil ≡ Tree l c.0 (siblings f (first_of f l)) Nil = sym t.1 ∙ tree_is_kids f once l c.0 here c.1 in
      let same : t.0 ≡ siblings f (first_of f l) = (let u = e in cc) in
      t.2 ∙ ap tops same

  pub tops_onward : (k p : ℕ) → parent_of f k ≡ Some p → tops (onward f k) ≡ k ∷ tops (siblings f (next_of f k))
  tops_onward k p child =
      let here = (parent_count f k p once child).0 in
      let c = content_at f once k here in
      ap tops (onward_is_tree f once k p child) ∙ ap (λ t. tops (join t (siblings f (next_of f k)))) (tree_is_kids f once k c.0 here c.1)

  pub next_at : (k p n : ℕ) → parent_of f k ≡ Some p → (o : Option ℕ) → o ≡ next_of f k → slice_get (tops (onward f k)) (n + 1) ≡ slice_get (tops (siblings f o)) n
  next_at k p n child o next = rw (tops_onward k p child, ← next) (beyond k (tops (siblings f o)) n)
    where
      beyond : (x : ℕ) (xs : List ℕ) (n : ℕ) → slice_get (x ∷ xs) (n + 1) ≡ slice_get xs n
      beyond x xs n = rw add-one refl

  pub at_none : (n : ℕ) → slice_get (tops (siblings f None)) n ≡ None
  at_none n = refl

  pub at_some : (k p : ℕ) → parent_of f k ≡ Some p → slice_get (tops (onward f k)) 0 ≡ Some k
  at_some k p child = rw (tops_onward k p child) refl

  -- a child begins the list of its later siblings
  pub own_onward : (k p : ℕ) → parent_of f k ≡ Some p → (c : Content) × (ks : Forest Content) × (rest : Forest Content) × (onward f k ≡ Tree k c ks rest)
  own_onward k p child =
      let here = (parent_count f k p once child).0 in
      let c = content_at f once k here in
      (c.0, siblings f (first_of f k), siblings f (next_of f k), onward_is_tree f once k p child ∙ ap (λ t. join t (siblings f (next_of f k))) (tree_is_kids f once k c.0 here c.1))
