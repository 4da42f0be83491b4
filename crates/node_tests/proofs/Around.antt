-- What stands round a node in its nearest block, by its siblings and its parent.
use Rattle.std.proofs.Common.{◌≡◌, ◌≢◌, ℕ, zero, suc, ◌⊎◌, ◌<◌, ◌≤◌, Bool, true, false, cond, List, [], ◌∷◌, ◌++◌, Option, Some, None, refl, sym, ap, subst, ◌∙◌, inl, inr, arith, eqb, is_none}
use Rattle.std.specs.Option.{option_map, option_map_or, option_and_then}
use Rattle.std.proofs.lemmas.Bool.Decides.{eqb_tells}
use Rattle.node_styles.specs.DomModel.declared.Content.{Content}
use Rattle.node_styles.specs.DomModel.Forest.{Forest, Seen, join, tops, count_of, IsDistinct, IsWithin, times, tree_of, preorder, parent_of, children_of, content_of, next_of, prev_of, first_in, after_in, before_in, before_from, depth_of}
use Rattle.node_styles.specs.DomModel.Forest.Forest.{Nil, Tree}
use Rattle.node_styles.specs.DomModel.Places.{kids_in}
use Rattle.node_styles.proofs.DomModel.Lists.{after_in-middle, times-append, before_from_some}
use Rattle.node_styles.proofs.DomModel.Stands.{Stands, seek_Stands, Stands-tree_of, times-tops}
use Rattle.node_styles.proofs.DomModel.Links.{join-Nil, seen, tree_is, parent_count, child_of_parent, times-children_of, eqb_refl_true}
use Rattle.node_styles.proofs.DomModel.Within.{within_self, within_child, depth_of-parent}
use Rattle.node_styles.proofs.DomModel.Move.{parent_apart}
use Rattle.node_styles.specs.Lineage.{lineage, nearest_label}
use Rattle.node_styles.specs.Blocks.{is_block, is_block_content, nearest_block}
use Rattle.node_styles.proofs.Lineages.{lineage-root, lineage-child, nearest-here, nearest-root, nearest-parent}
use Rattle.node_tests.specs.Surroundings.{earlier, later, labels_before_onto, held_by, in_block, outermost}
use Rattle.node_tests.proofs.Pieces.{Split, split_at, join_assoc, count-join, once_tree, once_kids, tree_in_tree, later-split, earlier-split, tree-split, labels-split, tops-join, back}

-- a label in a list and the one after it
before-after_from : (o : Option ℕ) (xs : List ℕ) (l k : ℕ) → ((j : ℕ) → times xs j ≤ 1) → before_from o xs l ≡ Some k → ((o ≡ Some k) × (first_in xs ≡ Some l)) ⊎ ((0 < times xs k) × (after_in xs k ≡ Some l))
before-after_from o [] l k once e = absurd (let e' = e in cc)
before-after_from o (x ∷ xs) l k once e =
    elim (eqb_tells x l) [
      | inl (t, is) ↦ inl (rw t at e, ap Some is)
      | inr (t, _) ↦ (let e' = rw t at e in
          elim (before-after_from (Some x) xs l k (λ j. omega (arith, once j)) e') [
            | inl (at, first) ↦ (let same : x ≡ k = (let u = at in cc) in
                let one : eqb x k ≡ true = rw same (eqb_refl_true k) in
                inr (rw one (omega arith), rw one first))
            | inr (here, after) ↦ inr (
              omega (arith, here),
              elim (eqb_tells x k) [
                | inl (u, _) ↦ absurd (let once' = rw u at (once k) in omega (arith, once', here))
                | inr (u, _) ↦ rw u after
              ],
            )
          ])
    ]

pub before-after : (xs : List ℕ) (l k : ℕ) → ((j : ℕ) → times xs j ≤ 1) → before_in xs l ≡ Some k → after_in xs k ≡ Some l
before-after xs l k once e = elim (before-after_from None xs l k once e) [ inl (at, _) ↦ absurd (let u = at in cc) | inr (_, after) ↦ after ]

module _ (f : Forest Content) (once : IsDistinct f) where
  -- ---- a node's tree, and its children

  pub own_tree : (l : ℕ) (c : Content) → 0 < count_of f l → content_of f l ≡ Some c → (ks : Forest Content) × (tree_of f l ≡ Tree l c ks Nil) × (children_of f l ≡ tops ks)
  own_tree l c here content =
      let t = tree_is f l (omega (arith, once l, here)) in
      let one = eqb_refl_true l in
      let stands : Stands None (tree_of f l) l (record { parent = None; content = t.0; children = tops t.1 }) = rw t.2 (inl (refl, refl)) in
      elim (Stands-tree_of None None f l l _ (once l) stands) [
        | inl (_, o, st, e) ↦ (
            let found = seek_Stands None f l o (once l) st in
            let is_c : t.0 ≡ c = (
            let a : o.content ≡ t.0 = sym (ap (λ (x : Seen Content). x.content) e) in
            let b : Some o.content ≡ Some c = ap (option_map (λ (x : Seen Content). x.content)) (sym found) ∙ content in cc) in
            let kids : children_of f l ≡ tops t.1 = ap (λ x. option_map_or (λ (y : Seen Content). y.children) x []) found ∙ sym (ap (λ (x : Seen Content). x.children) e) in
            (t.1, t.2 ∙ ap (λ x. Tree l x t.1 Nil) is_c, kids))
        | inr (off, _) ↦ absurd (off refl)
      ]

  pub content_at : (l : ℕ) → 0 < count_of f l → (c : Content) × (content_of f l ≡ Some c)
  content_at l here = let s = seen f l once here in (s.0.content, ap (option_map (λ (x : Seen Content). x.content)) s.2)

  module _ (l p : ℕ) (child : parent_of f l ≡ Some p) where
    pub counts : (0 < count_of f l) × (0 < count_of f p)
    counts = parent_count f l p once child

    pub under : IsWithin f p l
    under = within_child f p once counts.1 l p child (within_self f p once counts.1)

    pub other : p ≢ l
    other e = parent_apart f l p once child (subst (λ k. IsWithin f l k) (sym e) (within_self f l once counts.0))

  pub kid_inner : (l p : ℕ) → parent_of f l ≡ Some p → (c : Content) (ks : Forest Content) → tree_of f p ≡ Tree p c ks Nil → tree_of ks l ≡ tree_of f l
  kid_inner l p child c ks tree =
      sym (join-Nil (tree_of ks l))
      ∙ sym below
      ∙ ap (λ x. tree_of x l) (sym tree)
      ∙ tree_in_tree f p l once (under l p child)
    where
      below : tree_of (Tree p c ks Nil) l ≡ join (tree_of ks l) Nil
      below = elim (eqb_tells p l) [ inl (_, e) ↦ absurd (other l p child e) | inr (t, _) ↦ rw t refl ]

  -- the children of a parent, and one of them among them
  pub record Family (l p : ℕ) : Type 0 where
    pub content : Content
    pub content_is : content_of f p ≡ Some content
    pub kids : Forest Content
    pub tree : tree_of f p ≡ Tree p content kids Nil
    pub children : children_of f p ≡ tops kids
    pub among : 0 < times (tops kids) l
    pub low : 0 < count_of kids l
    pub single : IsDistinct kids
    pub inner : tree_of kids l ≡ tree_of f l

  pub family : (l p : ℕ) → parent_of f l ≡ Some p → Family l p
  family l p child =
      let n = counts l p child in
      let c = content_at p n.1 in
      let t = own_tree p c.0 n.1 c.1 in
      let r = child_of_parent f l p once child in
      let kids_r : children_of f p ≡ r.0.children = ap (λ o. option_map_or (λ (s : Seen Content). s.children) o []) r.2 in
      let among : 0 < times (tops t.0) l = subst (λ xs. 0 < times xs l) (sym kids_r ∙ t.2) r.3 in
      let low : 0 < count_of t.0 l = omega (arith, among, times-tops t.0 l) in
      let single : IsDistinct (Tree p c.0 t.0 Nil) = subst IsDistinct t.1 (once_tree f p once) in
      record {
        content = c.0;
        content_is = c.1;
        kids = t.0;
        tree = t.1;
        children = t.2;
        among = among;
        low = low;
        single = once_kids p c.0 t.0 Nil single;
        inner = kid_inner l p child c.0 t.0 t.1;
      }

  -- ---- the nearest block

  pub unfolds : (l p : ℕ) → parent_of f l ≡ Some p → nearest_block f l ≡ nearest_label is_block_content f p
  unfolding nearest_block
  unfolds l p child = ap (option_and_then (λ q. nearest_label is_block_content f q)) child

  pub block_test : (p : ℕ) (c : Content) (b : Bool) → content_of f p ≡ Some c → is_block f p ≡ b → is_block_content c ≡ b
  unfolding is_block
  block_test p c b content e = ap (λ o. option_map_or is_block_content o false) (sym content) ∙ e

  pub in_parent : (l p : ℕ) → parent_of f l ≡ Some p → is_block f p ≡ true → in_block f l ≡ kids_in (tree_of f p)
  unfolding in_block
  in_parent l p child block =
      let n = counts l p child in
      let c = content_at p n.1 in
      let at : nearest_block f l ≡ Some p = unfolds l p child ∙ ap (option_map (λ k. k.label)) (nearest-here is_block_content f once p c.0 n.1 c.1 (block_test p c.0 true c.1 block)) in
      ap (λ o. held_by o f l) at

  pub same_outermost : (l p : ℕ) → parent_of f l ≡ Some p → outermost l (lineage f l) ≡ outermost p (lineage f p)
  same_outermost l p child =
      let n = counts l p child in
      let c = content_at l n.0 in
      let d = content_at p n.1 in
      ap (outermost l) (lineage-child f once l p c.0 child c.1) ∙ by_parent d.0 d.1 n.1 (parent_of f p) refl
    where
      by_parent : (d : Content) → content_of f p ≡ Some d → 0 < count_of f p → (o : Option ℕ) → parent_of f p ≡ o → outermost l (lineage f p) ≡ outermost p (lineage f p)
      by_parent d content here None e = let t = lineage-root f once p d here e content in rw t refl
      by_parent d content here (Some q) e = let t = lineage-child f once p q d e content in rw t refl

  pub same_block : (l p : ℕ) → parent_of f l ≡ Some p → is_block f p ≡ false → in_block f l ≡ in_block f p
  unfolding in_block nearest_block
  same_block l p child inline =
      let n = counts l p child in
      let c = content_at p n.1 in
      let at : nearest_block f l ≡ nearest_block f p = unfolds l p child ∙ by_parent c.0 c.1 n.1 (parent_of f p) refl (block_test p c.0 false c.1 inline) in
      ap (λ o. held_by o f l) at ∙ by_block (nearest_block f p)
    where
      by_parent : (c : Content) → content_of f p ≡ Some c → 0 < count_of f p → (o : Option ℕ) → parent_of f p ≡ o → is_block_content c ≡ false → nearest_label is_block_content f p ≡ nearest_block f p
      by_parent c content here None e fails = ap (option_map (λ k. k.label)) (nearest-root is_block_content f once p c here content e fails) ∙ sym (ap (option_and_then (λ q. nearest_label is_block_content f q)) e)
      by_parent c content here (Some q) e fails = ap (option_map (λ k. k.label)) (nearest-parent is_block_content f once p c here content q e fails) ∙ sym (ap (option_and_then (λ r. nearest_label is_block_content f r)) e)

      by_block : (o : Option ℕ) → held_by o f l ≡ held_by o f p
      by_block None = ap (tree_of f) (same_outermost l p child)
      by_block (Some b) = refl

  pub at_root : (l : ℕ) → 0 < count_of f l → parent_of f l ≡ None → in_block f l ≡ tree_of f l
  unfolding in_block nearest_block
  at_root l here root =
      let c = content_at l here in
      let none : nearest_block f l ≡ None = ap (option_and_then (λ q. nearest_label is_block_content f q)) root in
      ap (λ o. held_by o f l) none ∙ ap (λ ks. tree_of f (outermost l ks)) (lineage-root f once l c.0 here root c.1)

  pub single_block : (l : ℕ) → IsDistinct (in_block f l)
  unfolding in_block
  single_block l = by_block (nearest_block f l)
    where
      kids_once : (g : Forest Content) → IsDistinct g → IsDistinct (kids_in g)
      kids_once Nil o = o
      kids_once (Tree m c ks rest) o = once_kids m c ks rest o

      by_block : (o : Option ℕ) → IsDistinct (held_by o f l)
      by_block None = once_tree f (outermost l (lineage f l)) once
      by_block (Some b) = kids_once (tree_of f b) (once_tree f b once)

  pub block_or_not : (b : Bool) → (b ≡ true) ⊎ (b ≡ false)
  block_or_not true = inl refl
  block_or_not false = inr refl

  -- a node stands in what its nearest block holds as it stands in the forest
  pub inner_up : (l p : ℕ) → parent_of f l ≡ Some p → (is_block f p ≡ false → tree_of (in_block f p) p ≡ tree_of f p) → tree_of (in_block f l) l ≡ tree_of f l
  inner_up l p child above =
      let n = family l p child in
      elim (block_or_not (is_block f p)) [
        | inl block ↦ (
            let e : in_block f l ≡ n.kids = in_parent l p child block ∙ ap kids_in n.tree in
            ap (λ g. tree_of g l) e ∙ n.inner)
        | inr inline ↦ (
            let e = same_block l p child inline in
            let up = above inline in
            let there : 0 < count_of (tree_of (in_block f p) p) l = subst (λ g. 0 < count_of g l) (sym up) (under l p child) in
            ap (λ g. tree_of g l) e
            ∙ sym (tree_in_tree (in_block f p) p l (single_block p) there)
            ∙ ap (λ g. tree_of g l) up
            ∙ tree_in_tree f p l once (under l p child))
      ]

  pub root_or_child : (l : ℕ) → (parent_of f l ≡ None) ⊎ ((p : ℕ) × (parent_of f l ≡ Some p))
  root_or_child l = by_parent (parent_of f l) refl
    where
      by_parent : (o : Option ℕ) → parent_of f l ≡ o → (o ≡ None) ⊎ ((p : ℕ) × (o ≡ Some p))
      by_parent None e = inl refl
      by_parent (Some p) e = inr (p, refl)

  pub inner_root : (l : ℕ) → 0 < count_of f l → parent_of f l ≡ None → tree_of (in_block f l) l ≡ tree_of f l
  inner_root l here root = ap (λ g. tree_of g l) (at_root l here root) ∙ tree_in_tree f l l once (within_self f l once here)

  pub inner_by : (d l : ℕ) → depth_of f l ≡ d → 0 < count_of f l → tree_of (in_block f l) l ≡ tree_of f l
  inner_by zero l deep here =
      elim (root_or_child l) [
        | inl root ↦ inner_root l here root
        | inr (p, child) ↦ absurd (omega (arith, depth_of-parent f l p once child, deep))
      ]
  inner_by (suc d) l deep here =
      elim (root_or_child l) [
        | inl root ↦ inner_root l here root
        | inr (p, child) ↦ inner_up l p child (λ _. inner_by d p (omega (arith, depth_of-parent f l p once child, deep)) (counts l p child).1)
      ]

  pub inner_is : (l : ℕ) → 0 < count_of f l → tree_of (in_block f l) l ≡ tree_of f l
  inner_is l here = inner_by (depth_of f l) l refl here

  -- ---- beside a sibling

  pub next_in : (l p : ℕ) → parent_of f l ≡ Some p → next_of f l ≡ after_in (children_of f p) l
  next_in l p child = ap (option_and_then (λ q. after_in (children_of f q) l)) child

  pub prev_in : (l p : ℕ) → parent_of f l ≡ Some p → prev_of f l ≡ before_in (children_of f p) l
  prev_in l p child = ap (option_and_then (λ q. before_in (children_of f q) l)) child

  -- a node and its next sibling among the children
  pub record Pair (l k : ℕ) (kids : Forest Content) : Type 0 where
    pub front : Forest Content
    pub first : Content
    pub first_kids : Forest Content
    pub second : Content
    pub second_kids : Forest Content
    pub rest : Forest Content
    pub is : kids ≡ join front (Tree l first first_kids (Tree k second second_kids rest))
    pub none_first : count_of front l ≡ 0
    pub none_second : count_of (join front (Tree l first first_kids Nil)) k ≡ 0

  -- the trees after a node among the children of its parent are those that begin with its next sibling
  pub rest_tops : (l p : ℕ) (child : parent_of f l ≡ Some p) (n : Family l p) (s : Split n.kids l) → next_of f l ≡ first_in (tops s.rest)
  rest_tops l p child n s =
      let e : children_of f p ≡ tops s.front ++ l ∷ tops s.rest = n.children ∙ ap tops s.is ∙ tops-join s.front (Tree l s.content s.kids s.rest) in
      let few = times-children_of f p l once in
      let few' = rw (e, times-append (tops s.front) (l ∷ tops s.rest) l) at few in
      let one : 0 < times (l ∷ tops s.rest) l = (let t = eqb_refl_true l in rw t (omega arith)) in
      next_in l p child ∙ ap (λ xs. after_in xs l) e ∙ after_in-middle (tops s.front) l (tops s.rest) (omega (arith, few', one))

  pub front_none : (l : ℕ) (kids : Forest Content) → IsDistinct kids → (s : Split kids l) → count_of s.front l ≡ 0
  front_none l kids single s =
      let few = single l in
      let few' = subst (λ g. count_of g l ≤ 1) s.is few in
      let one : 0 < count_of (Tree l s.content s.kids s.rest) l = (let t = eqb_refl_true l in rw t (omega arith)) in
      omega (arith, few', one, count-join s.front (Tree l s.content s.kids s.rest) l)

  pub pair : (l k p : ℕ) (child : parent_of f l ≡ Some p) (n : Family l p) → next_of f l ≡ Some k → Pair l k n.kids
  pair l k p child n next =
      let s = split_at n.kids l n.among in
      by_rest s (s.rest) refl (sym (rest_tops l p child n s) ∙ next)
    where
      by_rest : (s : Split n.kids l) (r : Forest Content) → s.rest ≡ r → first_in (tops r) ≡ Some k → Pair l k n.kids
      by_rest s Nil e first = absurd (let t = first in cc)
      by_rest s (Tree m c js more) e first =
          let is_k : m ≡ k = (let t = first in cc) in
          let is : n.kids ≡ join s.front (Tree l s.content s.kids (Tree k c js more)) = s.is ∙ ap (λ r. join s.front (Tree l s.content s.kids r)) (e ∙ ap (λ j. Tree j c js more) is_k) in
          let few = subst (λ g. count_of g k ≤ 1) is (n.single k) in
          let whole = count-join s.front (Tree l s.content s.kids (Tree k c js more)) k in
          let part = count-join s.front (Tree l s.content s.kids Nil) k in
          let one : 0 < cond (eqb k k) 1 0 = (let t = eqb_refl_true k in rw t (omega arith)) in
          record {
            front = s.front;
            first = s.content;
            first_kids = s.kids;
            second = c;
            second_kids = js;
            rest = more;
            is = is;
            none_first = front_none l n.kids n.single s;
            none_second = omega (arith, few, whole, part, one);
          }

  -- ---- what lies round the children of a node

  pub back-join : (g h : Forest Content) (a : List ℕ) → back (join g h) a ≡ back h (back g a)
  back-join Nil h a = refl
  back-join (Tree m c ks rest) h a = back-join rest h (back ks (m ∷ a))

  module _ (l k : ℕ) (kids : Forest Content) (n : Pair l k kids) where
    pub second_is : kids ≡ join (join n.front (Tree l n.first n.first_kids Nil)) (Tree k n.second n.second_kids n.rest)
    second_is = n.is ∙ sym (join_assoc n.front (Tree l n.first n.first_kids Nil) (Tree k n.second n.second_kids n.rest))

    pub first_tree : tree_of kids l ≡ Tree l n.first n.first_kids Nil
    first_tree = ap (λ g. tree_of g l) n.is ∙ tree-split l n.first n.first_kids (Tree k n.second n.second_kids n.rest) n.front n.none_first

    pub second_tree : tree_of kids k ≡ Tree k n.second n.second_kids Nil
    second_tree = ap (λ g. tree_of g k) second_is ∙ tree-split k n.second n.second_kids n.rest (join n.front (Tree l n.first n.first_kids Nil)) n.none_second

    pub later-pair : later kids l ≡ join (tree_of kids k) (later kids k)
    later-pair =
        ap (λ g. later g l) n.is
        ∙ later-split l n.first n.first_kids (Tree k n.second n.second_kids n.rest) n.front n.none_first
        ∙ ap (Tree k n.second n.second_kids) (sym (ap (λ g. later g k) second_is ∙ later-split k n.second n.second_kids n.rest (join n.front (Tree l n.first n.first_kids Nil)) n.none_second))
        ∙ ap (λ t. join t (later kids k)) (sym second_tree)

    pub earlier-pair : earlier kids k ≡ join (earlier kids l) (tree_of kids l)
    earlier-pair =
        ap (λ g. earlier g k) second_is
        ∙ earlier-split k n.second n.second_kids n.rest (join n.front (Tree l n.first n.first_kids Nil)) n.none_second
        ∙ ap (λ g. join g (Tree l n.first n.first_kids Nil)) (sym (ap (λ g. earlier g l) n.is ∙ earlier-split l n.first n.first_kids (Tree k n.second n.second_kids n.rest) n.front n.none_first))
        ∙ ap (join (earlier kids l)) (sym first_tree)

    pub labels-pair : (a : List ℕ) → labels_before_onto a (preorder kids) k ≡ back (tree_of kids l) (labels_before_onto a (preorder kids) l)
    labels-pair a =
        ap (λ g. labels_before_onto a (preorder g) k) second_is
        ∙ labels-split k n.second n.second_kids n.rest (join n.front (Tree l n.first n.first_kids Nil)) a [] n.none_second
        ∙ back-join n.front (Tree l n.first n.first_kids Nil) a
        ∙ ap (back (Tree l n.first n.first_kids Nil)) (sym (ap (λ g. labels_before_onto a (preorder g) l) n.is ∙ labels-split l n.first n.first_kids (Tree k n.second n.second_kids n.rest) n.front a [] n.none_first))
        ∙ ap (λ t. back t (labels_before_onto a (preorder kids) l)) (sym first_tree)

  -- after the last child comes nothing, and before the first
  module _ (l p : ℕ) (child : parent_of f l ≡ Some p) (n : Family l p) where
    pub later-last : next_of f l ≡ None → later n.kids l ≡ Nil
    later-last last =
        let s = split_at n.kids l n.among in
        ap (λ g. later g l) s.is
        ∙ later-split l s.content s.kids s.rest s.front (front_none l n.kids n.single s)
        ∙ empty s.rest (sym (rest_tops l p child n s) ∙ last)
      where
        empty : (g : Forest Content) → first_in (tops g) ≡ None → g ≡ Nil
        empty Nil e = refl
        empty (Tree m c ks rest) e = absurd (let e' = e in cc)

    pub whole : n.kids ≡ join (earlier n.kids l) (join (tree_of n.kids l) (later n.kids l))
    whole =
        let s = split_at n.kids l n.among in
        let none = front_none l n.kids n.single s in
        let before : earlier n.kids l ≡ s.front = ap (λ g. earlier g l) s.is ∙ earlier-split l s.content s.kids s.rest s.front none in
        let own : tree_of n.kids l ≡ Tree l s.content s.kids Nil = ap (λ g. tree_of g l) s.is ∙ tree-split l s.content s.kids s.rest s.front none in
        let after : later n.kids l ≡ s.rest = ap (λ g. later g l) s.is ∙ later-split l s.content s.kids s.rest s.front none in
        s.is ∙ sym (rw (before, own, after) refl)

    pub front_empty : prev_of f l ≡ None → (s : Split n.kids l) → s.front ≡ Nil
    front_empty none s = by_front s.front refl
      where
        by_front : (g : Forest Content) → s.front ≡ g → g ≡ Nil
        by_front Nil e = refl
        by_front (Tree m c js more) e =
            let absent = front_none l n.kids n.single s in
            let absent' = subst (λ g. count_of g l ≡ 0) e absent in
            let ys = tops more ++ l ∷ tops s.rest in
            let tops_is : children_of f p ≡ m ∷ ys = n.children ∙ ap tops s.is ∙ ap (λ g. tops (join g (Tree l s.content s.kids s.rest))) e ∙ ap (λ xs. m ∷ xs) (tops-join more (Tree l s.content s.kids s.rest)) in
            let before : before_in (m ∷ ys) l ≡ None = ap (λ xs. before_in xs l) (sym tops_is) ∙ sym (prev_in l p child) ∙ none in
            let low : 0 < times ys l = (let t = eqb_refl_true l in let u : 0 < times (l ∷ tops s.rest) l = rw t (omega arith) in omega (arith, u, times-append (tops more) (l ∷ tops s.rest) l)) in
            elim (eqb_tells m l) [
              | inl (t, _) ↦ absurd (let a = rw t at absent' in omega (arith, a))
              | inr (t, _) ↦ absurd (let b = rw t at before in let u : is_none (before_from (Some m) ys l) ≡ true = ap is_none b in let v = before_from_some m ys l low in cc)
            ]

    pub earlier-first : prev_of f l ≡ None → earlier n.kids l ≡ Nil
    earlier-first none =
        let s = split_at n.kids l n.among in
        ap (λ g. earlier g l) s.is
        ∙ earlier-split l s.content s.kids s.rest s.front (front_none l n.kids n.single s)
        ∙ front_empty none s

    pub labels_beyond : (a : List ℕ) → labels_before_onto a (preorder n.kids) l ≡ back (earlier n.kids l) a
    labels_beyond a =
        let s = split_at n.kids l n.among in
        let none = front_none l n.kids n.single s in
        ap (λ g. labels_before_onto a (preorder g) l) s.is
        ∙ labels-split l s.content s.kids s.rest s.front a [] none
        ∙ ap (λ g. back g a) (sym (ap (λ g. earlier g l) s.is ∙ earlier-split l s.content s.kids s.rest s.front none))

    pub labels-first : (a : List ℕ) → prev_of f l ≡ None → labels_before_onto a (preorder n.kids) l ≡ a
    labels-first a none = labels_beyond a ∙ ap (λ g. back g a) (earlier-first none)
