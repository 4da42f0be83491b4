-- The trees and the labels round a node in its nearest block, by one step to a sibling, to a child or to the parent.
use Rattle.std.proofs.Common.{◌≡◌, ℕ, ◌<◌, Bool, true, false, cond, List, [], ◌∷◌, Some, None, refl, sym, ap, subst, ◌∙◌, arith, inl, inr}
use Rattle.std.specs.Option.{option_and_then}
use Rattle.node_styles.specs.DomModel.declared.Content.{Content}
use Rattle.node_styles.specs.DomModel.Forest.{Forest, join, count_of, IsDistinct, tree_of, preorder, parent_of, children_of, next_of, prev_of, before_in, after_in}
use Rattle.node_styles.specs.DomModel.Forest.Forest.{Nil, Tree}
use Rattle.node_styles.specs.DomModel.Places.{kids_in}
use Rattle.node_styles.proofs.DomModel.Links.{tree_is, join-Nil, times-children_of, eqb_refl_true}
use Rattle.node_styles.proofs.DomModel.Within.{within_self}
use Rattle.node_styles.proofs.DomModel.Neighbours.{parent_of-next, parent_of-prev_sibling}
use Rattle.node_styles.specs.Blocks.{is_block}
use Rattle.node_tests.specs.declared.sides.Side.{Side}
use Rattle.node_tests.specs.declared.sides.Side.TheVariants.{Before, After}
use Rattle.node_tests.specs.Sides.{other, sibling, trees}
use Rattle.node_tests.specs.Surroundings.{earlier, later, labels_before_onto, in_block, nodes_before, trees_before, trees_after}
use Rattle.node_tests.proofs.Pieces.{count_in_tree, later-below, earlier-below, labels-below, back}
use Rattle.node_tests.proofs.Around.{Family, family, whole, pair, kid_inner, counts, in_parent, same_block, at_root, root_or_child, single_block, inner_is, next_in, prev_in, before-after, later-pair, earlier-pair, labels-pair, later-last, earlier-first, labels-first}
use Rattle.node_tests.proofs.Joined.{joined, beyond, joined_assoc, joined-Nil}

module _ (f : Forest Content) (once : IsDistinct f) where
  -- what lies on a side of all children of p in their nearest block, and the labels before them
  abbrev pub around : ℕ → Side → Forest Content
  around p side = cond (is_block f p) Nil (trees side f p)

  abbrev pub above : ℕ → List ℕ
  above p = cond (is_block f p) [] (p ∷ nodes_before f p)

  -- ---- round a child, by what lies round it among the children

  module _ (l p : ℕ) (c : Content) (kids : Forest Content) (child : parent_of f l ≡ Some p) (tree : tree_of f p ≡ Tree p c kids Nil) where
    low : 0 < count_of kids l
    low =
        let t = kid_inner f once l p child c kids tree in
        let some : 0 < count_of (tree_of kids l) l = subst (λ g. 0 < count_of g l) (sym t) (within_self f l once (counts f once l p child).0) in
        omega (arith, some, count_in_tree kids l l)

    inner : tree_of (in_block f p) p ≡ Tree p c kids Nil
    inner = inner_is f once p (counts f once l p child).1 ∙ tree

    in_a_block : is_block f p ≡ true → in_block f l ≡ kids
    in_a_block block = in_parent f once l p child block ∙ ap kids_in tree

    pub beside : (side : Side) (b : Bool) → is_block f p ≡ b → trees side f l ≡ joined side (beyond side kids l) (cond b Nil (trees side f p))
    unfolding trees_before trees_after
    beside Before true e = ap (λ g. earlier g l) (in_a_block e)
    beside After true e = ap (λ g. later g l) (in_a_block e) ∙ sym (join-Nil (later kids l))
    beside Before false e = ap (λ g. earlier g l) (same_block f once l p child e) ∙ earlier-below p l c kids low (in_block f p) (single_block f once p) inner
    beside After false e = ap (λ g. later g l) (same_block f once l p child e) ∙ later-below p l c kids low (in_block f p) (single_block f once p) inner

    pub labels_beside : (b : Bool) → is_block f p ≡ b → nodes_before f l ≡ labels_before_onto (cond b [] (p ∷ nodes_before f p)) (preorder kids) l
    unfolding nodes_before
    labels_beside true e = ap (λ g. labels_before_onto [] (preorder g) l) (in_a_block e)
    labels_beside false e =
        ap (λ g. labels_before_onto [] (preorder g) l) (same_block f once l p child e)
        ∙ labels-below p l c kids low [] (in_block f p) [] [] (single_block f once p) inner

  -- ---- a step to a sibling

  -- a root has none
  no_sibling : (side : Side) (l : ℕ) → parent_of f l ≡ None → sibling side f l ≡ None
  no_sibling Before l root = ap (option_and_then (λ q. before_in (children_of f q) l)) root
  no_sibling After l root = ap (option_and_then (λ q. after_in (children_of f q) l)) root

  pub sibling_parent : (side : Side) (l k : ℕ) → sibling side f l ≡ Some k → (p : ℕ) × (parent_of f l ≡ Some p)
  sibling_parent side l k e =
      elim (root_or_child f once l) [
        | inl root ↦ absurd (let t : None ≡ Some k = sym (no_sibling side l root) ∙ e in cc)
        | inr child ↦ child
      ]

  pub sibling_child : (side : Side) (l k p : ℕ) → parent_of f l ≡ Some p → sibling side f l ≡ Some k → parent_of f k ≡ Some p
  sibling_child Before l k p child e = parent_of-prev_sibling f once l k p child e
  sibling_child After l k p child e = parent_of-next f once l k p child e

  pub prev_next : (l k p : ℕ) → parent_of f l ≡ Some p → prev_of f l ≡ Some k → (parent_of f k ≡ Some p) × (next_of f k ≡ Some l)
  prev_next l k p child prev =
      let child_k = sibling_child Before l k p child prev in
      let e : before_in (children_of f p) l ≡ Some k = sym (prev_in f once l p child) ∙ prev in
      (child_k, next_in f once k p child_k ∙ before-after (children_of f p) l k (λ j. times-children_of f p j once) e)

  -- among the children of their parent
  pair_of : (side : Side) (l k p : ℕ) → parent_of f l ≡ Some p → sibling side f l ≡ Some k → (c : Content) × (kids : Forest Content) × (tree_of f p ≡ Tree p c kids Nil) × (beyond side kids l ≡ joined side (tree_of kids k) (beyond side kids k))
  pair_of Before l k p child e =
      let t = prev_next l k p child e in
      let n = family f once k p t.0 in
      (n.content, n.kids, n.tree, earlier-pair f once k l n.kids (pair f once k l p t.0 n t.1))
  pair_of After l k p child e = let n = family f once l p child in (n.content, n.kids, n.tree, later-pair f once l k n.kids (pair f once l k p child n e))

  pub step : (side : Side) (l k : ℕ) → sibling side f l ≡ Some k → trees side f l ≡ joined side (tree_of f k) (trees side f k)
  step side l k e =
      let (p, child) = sibling_parent side l k e in
      let child_k = sibling_child side l k p child e in
      let (c, kids, tree, two) = pair_of side l k p child e in
      beside l p c kids child tree side (is_block f p) refl
      ∙ ap (λ g. joined side g (around p side)) (two ∙ ap (λ t. joined side t (beyond side kids k)) (kid_inner f once k p child_k c kids tree))
      ∙ joined_assoc side (tree_of f k) (beyond side kids k) (around p side)
      ∙ ap (joined side (tree_of f k)) (sym (beside k p c kids child_k tree side (is_block f p) refl))

  pub labels_step : (l k p : ℕ) → parent_of f l ≡ Some p → prev_of f l ≡ Some k → nodes_before f l ≡ back (tree_of f k) (nodes_before f k)
  labels_step l k p child prev =
      let t = prev_next l k p child prev in
      let n = family f once k p t.0 in
      labels_beside l p n.content n.kids child n.tree (is_block f p) refl
      ∙ labels-pair f once k l n.kids (pair f once k l p t.0 n t.1) (above p)
      ∙ ap (λ t. back t (labels_before_onto (above p) (preorder n.kids) k)) n.inner
      ∙ ap (back (tree_of f k)) (sym (labels_beside k p n.content n.kids t.0 n.tree (is_block f p) refl))

  -- ---- a step to a child

  pub nearest : (side : Side) (k p : ℕ) (child : parent_of f k ≡ Some p) (n : Family f once k p) → sibling (other side) f k ≡ None → n.kids ≡ joined side (tree_of f k) (beyond side n.kids k)
  nearest Before k p child n last =
      whole f once k p child n
      ∙ ap (λ g. join (earlier n.kids k) (join (tree_of n.kids k) g)) (later-last f once k p child n last)
      ∙ ap (join (earlier n.kids k)) (join-Nil (tree_of n.kids k) ∙ n.inner)
  nearest After k p child n first =
      whole f once k p child n
      ∙ ap (λ g. join g (join (tree_of n.kids k) (later n.kids k))) (earlier-first f once k p child n first)
      ∙ ap (λ g. join g (later n.kids k)) n.inner

  pub step_in : (side : Side) (k p : ℕ) → parent_of f k ≡ Some p → sibling (other side) f k ≡ None → is_block f p ≡ false → (c : Content) (kids : Forest Content) → tree_of f p ≡ Tree p c kids Nil → joined side kids (trees side f p) ≡ joined side (tree_of f k) (trees side f k)
  step_in side k p child first inline c kids tree =
      let n = family f once k p child in
      let same : kids ≡ n.kids = (let t : Tree p c kids Nil ≡ Tree p n.content n.kids Nil = sym tree ∙ n.tree in cc) in
      ap (λ g. joined side g (trees side f p)) (same ∙ nearest side k p child n first)
      ∙ joined_assoc side (tree_of f k) (beyond side n.kids k) (trees side f p)
      ∙ ap (joined side (tree_of f k)) (sym (beside k p n.content n.kids child n.tree side false inline))

  -- ---- a step to the parent

  none_beyond : (side : Side) (l p : ℕ) (child : parent_of f l ≡ Some p) (n : Family f once l p) → sibling side f l ≡ None → beyond side n.kids l ≡ Nil
  none_beyond Before l p child n first = earlier-first f once l p child n first
  none_beyond After l p child n last = later-last f once l p child n last

  module _ (l p : ℕ) (child : parent_of f l ≡ Some p) where
    pub step_out : (side : Side) → sibling side f l ≡ None → trees side f l ≡ around p side
    step_out side none =
        let n = family f once l p child in
        beside l p n.content n.kids child n.tree side (is_block f p) refl
        ∙ ap (λ g. joined side g (around p side)) (none_beyond side l p child n none)
        ∙ joined-Nil side (around p side)

    pub labels_out : prev_of f l ≡ None → nodes_before f l ≡ above p
    labels_out first =
        let n = family f once l p child in
        labels_beside l p n.content n.kids child n.tree (is_block f p) refl ∙ labels-first f once l p child n (above p) first

  -- ---- at a root

  module _ (l : ℕ) (here : 0 < count_of f l) (root : parent_of f l ≡ None) where
    root_tree : (c : Content) × (ks : Forest Content) × (in_block f l ≡ Tree l c ks Nil)
    root_tree = let t = tree_is f l (omega (arith, once l, here)) in (t.0, t.1, at_root f once l here root ∙ t.2)

    pub root_alone : (side : Side) → trees side f l ≡ Nil
    unfolding trees_before trees_after
    root_alone Before = let t = root_tree in let one = eqb_refl_true l in ap (λ g. earlier g l) t.2 ∙ rw one refl
    root_alone After = let t = root_tree in let one = eqb_refl_true l in ap (λ g. later g l) t.2 ∙ rw one refl

    pub labels-root : nodes_before f l ≡ []
    unfolding nodes_before
    labels-root = let t = root_tree in let one = eqb_refl_true l in ap (λ g. labels_before_onto [] (preorder g) l) t.2 ∙ rw one refl
