-- The tree of a node, by its children and their later siblings.
use Rattle.std.proofs.Common.{◌≡◌, ℕ, ◌+◌, ◌<◌, Option, Some, None, refl, sym, ap, ◌∙◌, arith}
use Rattle.node_styles.specs.DomModel.declared.Content.{Content}
use Rattle.node_styles.specs.DomModel.Forest.{Forest, join, tops, total, count_of, IsDistinct, tree_of, parent_of, content_of, first_of, next_of, first_in}
use Rattle.node_styles.specs.DomModel.Forest.Forest.{Nil, Tree}
use Rattle.node_styles.specs.DomModel.Places.{or_else, onward}
use Rattle.node_styles.proofs.DomModel.Totals.{total-join}
use Rattle.node_styles.proofs.DomModel.Links.{parent_count}
use Rattle.node_styles.proofs.DomModel.Parts.{onward_absent, at_label}
use Rattle.node_tests.specs.Listing.{siblings}
use Rattle.node_tests.proofs.Pieces.{find_where, once_kids, once_rest, tree-below, tree-after}
use Rattle.node_tests.proofs.Pieces.Where.{Here, Below, After}

-- how many nodes
abbrev pub nodes : Forest Content → ℕ
nodes f = total (λ _ _. 1) f

alone : Forest Content → Forest Content
alone Nil = Nil
alone (Tree m c ks rest) = Tree m c ks Nil

or_nil : (f : Forest Content) → or_else f Nil ≡ f
or_nil Nil = refl
or_nil (Tree m c ks rest) = refl

first_alone : (f : Forest Content) (l : ℕ) → IsDistinct f → 0 < count_of f l → tree_of f l ≡ alone (onward f l)
unfolding alone
first_alone Nil l once here = absurd (omega (arith, here))
first_alone (Tree m c ks rest) l once here =
    elim (find_where m ks rest l (once l) here) [
      | Here _ t ↦ rw t refl
      | Below t some none ↦ tree-below m c ks rest l t none ∙ first_alone ks l (once_kids m c ks rest once) some ∙ rw (t, onward_absent rest l none, or_nil (onward ks l)) refl
      | After t none some ↦ tree-after m c ks rest l t none ∙ first_alone rest l (once_rest m c ks rest once) some ∙ rw (t, onward_absent ks l none) refl
    ]

no_tops : (g : Forest Content) → first_in (tops g) ≡ None → g ≡ Nil
no_tops Nil e = refl
no_tops (Tree m c ks rest) e = absurd (let e' = e in cc)

module _ (f : Forest Content) (once : IsDistinct f) where
  pub tree_is_kids : (l : ℕ) (c : Content) → 0 < count_of f l → content_of f l ≡ Some c → tree_of f l ≡ Tree l c (siblings f (first_of f l)) Nil
  unfolding alone
  tree_is_kids l c here content =
      let a = at_label f once l here in
      let is_c : a.content ≡ c = (let t : Some a.content ≡ Some c = sym a.content_is ∙ content in cc) in
      let kids : a.kids ≡ siblings f (first_of f l) = by_first (first_of f l) refl a.kids (ap first_in a.children_is) a.first in
      first_alone f l once here ∙ ap alone a.is ∙ ap (λ x. Tree l x a.kids Nil) is_c ∙ ap (λ g. Tree l c g Nil) kids
    where
      by_first : (o : Option ℕ) → first_of f l ≡ o → (g : Forest Content) → first_of f l ≡ first_in (tops g) → ((k : ℕ) → first_of f l ≡ Some k → onward f k ≡ g) → g ≡ siblings f o
      by_first None e g tops_is at = no_tops g (sym tops_is ∙ e)
      by_first (Some k) e g tops_is at = sym (at k e)

  pub onward_is_tree : (k p : ℕ) → parent_of f k ≡ Some p → onward f k ≡ join (tree_of f k) (siblings f (next_of f k))
  unfolding alone
  onward_is_tree k p child =
      let here = (parent_count f k p once child).0 in
      let a = at_label f once k here in
      let tree : tree_of f k ≡ Tree k a.content a.kids Nil = first_alone f k once here ∙ ap alone a.is in
      let rest : a.rest ≡ siblings f (next_of f k) = by_next (next_of f k) refl a.rest (a.next_is p child) a.next in
      a.is ∙ ap (Tree k a.content a.kids) rest ∙ ap (λ t. join t (siblings f (next_of f k))) (sym tree)
    where
      by_next : (o : Option ℕ) → next_of f k ≡ o → (g : Forest Content) → next_of f k ≡ first_in (tops g) → ((j : ℕ) → next_of f k ≡ Some j → onward f j ≡ g) → g ≡ siblings f o
      by_next None e g tops_is at = no_tops g (sym tops_is ∙ e)
      by_next (Some j) e g tops_is at = sym (at j e)

  -- how many nodes stand in the trees of a node's children
  pub fewer_kids : (l : ℕ) → 0 < count_of f l → nodes (siblings f (first_of f l)) < nodes (tree_of f l)
  fewer_kids l here =
      let a = at_label f once l here in
      let e = tree_is_kids l a.content here a.content_is in
      omega (arith, ap nodes e)

  pub fewer_onward : (k p : ℕ) → parent_of f k ≡ Some p → nodes (onward f k) ≡ nodes (tree_of f k) + nodes (siblings f (next_of f k))
  fewer_onward k p child = ap nodes (onward_is_tree k p child) ∙ total-join (λ _ _. 1) (tree_of f k) (siblings f (next_of f k))

  pub some_node : (k p : ℕ) → parent_of f k ≡ Some p → 0 < nodes (tree_of f k)
  some_node k p child =
      let here = (parent_count f k p once child).0 in
      let a = at_label f once k here in
      omega (arith, ap nodes (tree_is_kids k a.content here a.content_is))
