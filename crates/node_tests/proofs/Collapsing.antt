-- Whether whitespace collapses at what stands before and after it.
use Rattle.std.proofs.Common.{◌≡◌, ℕ, ◌<◌, Bool, true, false, not, cond, ◌||◌, List, [], ◌∷◌, Option, Some, None, IfSome, refl, sym, ap, ◌∙◌, inl, inr, arith}
use Rattle.std.specs.Option.{option_or, option_map, option_map_or, unwrap_or}
use Rattle.std.proofs.lemmas.Bool.Decides.{eqb_tells}
use Rattle.node_styles.specs.DomModel.declared.Content.{Content}
use Rattle.node_styles.specs.DomModel.declared.Content.TheVariants.{Document, Element, Words, Remark}
use Rattle.node_styles.specs.NodeArena.Held.{label}
use Rattle.node_styles.specs.NodeArena.Reads.{IsValid, Names}
use Rattle.node_styles.specs.DomModel.Contents.{may_have_children, is_break}
use Rattle.node_styles.specs.DomModel.Forest.{Forest, Seen, join, count_of, IsDistinct, tree_of, preorder, preorder_onto, parent_of, first_of, last_of, first_in, prev_of}
use Rattle.node_styles.specs.DomModel.Forest.Forest.{Nil, Tree}
use Rattle.node_styles.proofs.DomModel.Links.{seen, eqb_refl_true}
use Rattle.node_styles.specs.Blocks.{is_block, is_whitespace, is_whitespace_in}
use Rattle.node_styles.specs.NodeArena.declared.NodeRef.{NodeRef}
use Rattle.node_tests.specs.declared.neighbours.Neighbour.{Neighbour}
use Rattle.node_tests.specs.declared.neighbours.Neighbour.TheVariants.{BlockEdge, LineBreak, Solid}
use Rattle.node_tests.specs.declared.sides.Side.TheVariants as sides
use Rattle.node_tests.specs.Surroundings.{earlier, later, labels_after, in_block, trees_after, nodes_before, nodes_after}
use Rattle.node_tests.specs.CollapsedWhitespace.{decides, collapses_at, is_solid}
use Rattle.node_tests.specs.SolidNeighbours.{met, first_met, neighbour_on, is_solid_neighbour}
use Rattle.node_tests.proofs.Pieces.{count_in_tree, find_where, once_kids, once_rest, tree-below, tree-after, has, hasnt, back}
use Rattle.node_tests.proofs.Pieces.Where.{Here, Below, After}
use Rattle.node_tests.specs.Listing.{siblings}
use Rattle.node_tests.proofs.Inside.{tree_is_kids}
use Rattle.node_tests.proofs.Around.{content_at, own_tree, family, back-join, labels_beyond, single_block, inner_is}
use Rattle.node_tests.proofs.Steps.{sibling_parent, nearest, labels_beside, labels_step, labels_out, labels-root}
use Rattle.node_tests.proofs.Tags.{near_parent, near_alone}
use Rattle.node_tests.proofs.Walking.{no_kids}

yields : Neighbour → Bool
yields m = not (is_solid_neighbour m)

map_or : (a b : Option Neighbour) (d : Bool) → unwrap_or (option_map yields (option_or a b)) d ≡ unwrap_or (option_map yields a) (unwrap_or (option_map yields b) d)
map_or None b d = refl
map_or (Some x) b d = refl

module _ (f : Forest Content) where
  decides_met : (l : ℕ) → decides f l ≡ option_map yields (met f l)
  unfolding decides met yields
  decides_met l = by_tests (is_block f l) (is_break f l) (is_solid f l)
    where
      by_tests : (a b c : Bool) → cond (a || b) (Some true) (cond c (Some false) None) ≡ option_map (λ m. not (is_solid_neighbour m)) (cond a (Some BlockEdge) (cond b (Some LineBreak) (cond c (Some Solid) None)))
      by_tests true b c = refl
      by_tests false true c = refl
      by_tests false false true = refl
      by_tests false false false = refl

  at_first : (l : ℕ) (ls : List ℕ) → collapses_at f (l ∷ ls) ≡ unwrap_or (option_map yields (met f l)) (collapses_at f ls)
  unfolding collapses_at
  at_first l ls = ap (λ o. unwrap_or o (collapses_at f ls)) (decides_met l)

  collapses-back : (g : Forest Content) (xs ys : List ℕ) → collapses_at f xs ≡ collapses_at f ys → collapses_at f (back g xs) ≡ collapses_at f (back g ys)
  collapses-back Nil xs ys e = e
  collapses-back (Tree m c ks rest) xs ys e =
      collapses-back rest (back ks (m ∷ xs)) (back ks (m ∷ ys)) (collapses-back ks (m ∷ xs) (m ∷ ys) (at_first m xs ∙ ap (unwrap_or (option_map yields (met f m))) e ∙ sym (at_first m ys)))

  collapses-onto : (g : Forest Content) (ls : List ℕ) → collapses_at f (preorder_onto g ls) ≡ unwrap_or (option_map yields (first_met sides.After f g)) (collapses_at f ls)
  collapses-onto Nil ls = refl
  collapses-onto (Tree m c ks rest) ls =
      at_first m (preorder_onto ks (preorder_onto rest ls))
      ∙ ap (unwrap_or (option_map yields (met f m))) (collapses-onto ks (preorder_onto rest ls))
      ∙ sym (map_or (met f m) (first_met sides.After f ks) (collapses_at f (preorder_onto rest ls)))
      ∙ ap (unwrap_or (option_map yields (option_or (met f m) (first_met sides.After f ks)))) (collapses-onto rest ls)
      ∙ sym (map_or (option_or (met f m) (first_met sides.After f ks)) (first_met sides.After f rest) (collapses_at f ls))

  none_left : collapses_at f [] ≡ true
  unfolding collapses_at
  none_left = refl

-- ---- the labels after a node

after_skip : (f : Forest Content) (l : ℕ) (xs : List ℕ) → count_of f l ≡ 0 → labels_after (preorder_onto f xs) l ≡ labels_after xs l
after_skip Nil l xs none = refl
after_skip (Tree m c ks rest) l xs none =
    elim (eqb_tells m l) [
      | inl (t, _) ↦ absurd (let none' = rw t at none in omega (arith, none'))
      | inr (t, _) ↦ (let none' = rw t at none in
          rw t (after_skip ks l (preorder_onto rest xs) (omega (arith, none')) ∙ after_skip rest l xs (omega (arith, none'))))
    ]

onto_join : (g h : Forest Content) (xs : List ℕ) → preorder_onto (join g h) xs ≡ preorder_onto g (preorder_onto h xs)
onto_join Nil h xs = refl
onto_join (Tree m c ks rest) h xs = ap (λ ys. m ∷ preorder_onto ks ys) (onto_join rest h xs)

module _ (l : ℕ) (d : Content) (js : Forest Content) where
  after_is : (g : Forest Content) (xs : List ℕ) → IsDistinct g → 0 < count_of g l → tree_of g l ≡ Tree l d js Nil → labels_after (preorder_onto g xs) l ≡ preorder_onto js (preorder_onto (later g l) xs)
  after_is Nil xs once here e = absurd (omega (arith, here))
  after_is (Tree m c ks rest) xs once here e =
      elim (find_where m ks rest l (once l) here) [
        | Here _ t ↦ (
            let e' : Tree m c ks Nil ≡ Tree l d js Nil = rw t at e in
            let same : ks ≡ js = (let u = e' in cc) in
            rw t (ap (λ x. preorder_onto x (preorder_onto rest xs)) same))
        | Below t some none ↦ (
            let e' = sym (tree-below m c ks rest l t none) ∙ e in
            rw (t, has (count_of ks l) some)
            (after_is ks (preorder_onto rest xs) (once_kids m c ks rest once) some e' ∙ ap (preorder_onto js) (sym (onto_join (later ks l) rest xs))))
        | After t none some ↦ (
            let e' = sym (tree-after m c ks rest l t none) ∙ e in
            rw (t, hasnt (count_of ks l) none)
            (after_skip ks l (preorder_onto rest xs) none ∙ after_is rest xs (once_rest m c ks rest once) some e'))
      ]

module _ (f : Forest Content) (once : IsDistinct f) where
  module _ (l : ℕ) (here : 0 < count_of f l) (leaf : first_of f l ≡ None) where
    after_trees : nodes_after f l ≡ preorder (trees_after f l)
    unfolding nodes_after trees_after
    after_trees =
        let c = content_at f once l here in
        let inner = inner_is f once l here in
        let tree : tree_of (in_block f l) l ≡ Tree l c.0 Nil Nil = inner ∙ tree_is_kids f once l c.0 here c.1 ∙ ap (λ o. Tree l c.0 (siblings f o) Nil) leaf in
        after_is l c.0 Nil (in_block f l) [] (single_block f once l) (there c.0 tree) tree
      where
        there : (c : Content) → tree_of (in_block f l) l ≡ Tree l c Nil Nil → 0 < count_of (in_block f l) l
        there c tree =
            let one = eqb_refl_true l in
            let some : 0 < count_of (tree_of (in_block f l) l) l = rw (tree, one) (omega arith) in
            omega (arith, some, count_in_tree (in_block f l) l l)

    pub after_collapses : not (is_solid_neighbour (neighbour_on sides.After f l)) ≡ collapses_at f (nodes_after f l)
    unfolding neighbour_on yields
    after_collapses =
        by_met (first_met sides.After f (trees_after f l))
        ∙ ap (unwrap_or (option_map yields (first_met sides.After f (trees_after f l)))) (sym (none_left f))
        ∙ sym (collapses-onto f (trees_after f l) [])
        ∙ ap (collapses_at f) (sym after_trees)
      where
        by_met : (o : Option Neighbour) → not (is_solid_neighbour (unwrap_or o BlockEdge)) ≡ unwrap_or (option_map yields o) true
        by_met None = refl
        by_met (Some m) = refl

  -- ---- the walk back

  block_edge : (p : ℕ) → is_block f p ≡ true → met f p ≡ Some BlockEdge
  unfolding met
  block_edge p block = rw block refl

  module _ (l p : ℕ) (child : parent_of f l ≡ Some p) (first : prev_of f l ≡ None) where
    by_inline : is_block f p ≡ false → collapses_at f (nodes_before f l) ≡ unwrap_or (option_map yields (met f p)) (collapses_at f (nodes_before f p))
    by_inline inline = ap (collapses_at f) (labels_out f once l p child first ∙ ap (λ b. cond b [] (p ∷ nodes_before f p)) inline) ∙ at_first f p (nodes_before f p)

    by_block : is_block f p ≡ true → true ≡ collapses_at f (nodes_before f l)
    by_block block = sym (ap (collapses_at f) (labels_out f once l p child first ∙ ap (λ b. cond b [] (p ∷ nodes_before f p)) block) ∙ none_left f)

    pub up_found : (m : Neighbour) → Some m ≡ met f p → not (is_solid_neighbour m) ≡ collapses_at f (nodes_before f l)
    unfolding yields
    up_found m e = by_test (is_block f p) refl
      where
        by_test : (b : Bool) → is_block f p ≡ b → not (is_solid_neighbour m) ≡ collapses_at f (nodes_before f l)
        by_test true block =
            let same : m ≡ BlockEdge = (let t : Some m ≡ Some BlockEdge = e ∙ block_edge p block in cc) in
            ap (λ x. not (is_solid_neighbour x)) same ∙ by_block block
        by_test false inline = sym (by_inline inline ∙ ap (λ o. unwrap_or (option_map yields o) (collapses_at f (nodes_before f p))) (sym e))

    pub up_passed : None ≡ met f p → collapses_at f (nodes_before f p) ≡ collapses_at f (nodes_before f l)
    up_passed e = by_test (is_block f p) refl
      where
        by_test : (b : Bool) → is_block f p ≡ b → collapses_at f (nodes_before f p) ≡ collapses_at f (nodes_before f l)
        by_test true block = absurd (let t : None ≡ Some BlockEdge = e ∙ block_edge p block in cc)
        by_test false inline = sym (by_inline inline ∙ ap (λ o. unwrap_or (option_map yields o) (collapses_at f (nodes_before f p))) (sym e))

  pub top_collapses : (l : ℕ) → 0 < count_of f l → parent_of f l ≡ None → true ≡ collapses_at f (nodes_before f l)
  top_collapses l here root = sym (ap (collapses_at f) (labels-root f once l here root) ∙ none_left f)

-- a walk that has come back to a node, and the tree that it goes into next
abbrev pub labels_back : Forest Content → ℕ → Option ℕ → List ℕ
labels_back f l None = nodes_before f l
labels_back f l (Some k) = back (tree_of f k) (nodes_before f k)

pub record Backward (holds : NodeRef → Type 0) (f : Forest Content) (at : NodeRef) (tree : Option NodeRef) (answer : Bool) : Type 0 where
  pub held : holds at
  pub tree_held : IfSome tree (λ r. holds r)
  pub first : label tree ≡ None → prev_of f at.label ≡ None
  pub same : collapses_at f (labels_back f at.label (label tree)) ≡ answer

module _ {holds : NodeRef → Type 0} {f : Forest Content} {upper : ℕ} (law : IsValid holds f upper) where
  labels_on : (l : ℕ) (o : Option ℕ) → o ≡ prev_of f l → labels_back f l o ≡ nodes_before f l
  labels_on l None e = refl
  labels_on l (Some k) e = let p = sibling_parent f law.distinct sides.Before l k (sym e) in sym (labels_step f law.distinct l k p.0 p.1 (sym e))

  pub come_back : (r : NodeRef) (o : Option NodeRef) (answer : Bool) → holds r → Names holds o (prev_of f r.label) → collapses_at f (nodes_before f r.label) ≡ answer → Backward holds f r o answer
  come_back r o answer held named same = record {
    held = held;
    tree_held = named.held;
    first = λ none. sym named.is ∙ none;
    same = ap (collapses_at f) (labels_on r.label (label o) named.is) ∙ same;
  }

  -- a node's own label counts as the nodes above its children do
  own_label : (k : ℕ) (b : Bool) → is_block f k ≡ b → collapses_at f (k ∷ nodes_before f k) ≡ collapses_at f (cond b [] (k ∷ nodes_before f k))
  unfolding yields
  own_label k true block =
      at_first f k (nodes_before f k)
      ∙ ap (λ o. unwrap_or (option_map yields o) (collapses_at f (nodes_before f k))) (block_edge f law.distinct k block)
      ∙ sym (none_left f)
  own_label k false inline = refl

  down : (k j : ℕ) → last_of f k ≡ Some j → collapses_at f (back (tree_of f k) (nodes_before f k)) ≡ collapses_at f (back (tree_of f j) (nodes_before f j))
  down k j e =
      let child = near_parent law sides.Before k j e in
      let n = family f law.distinct j k child in
      let front = earlier n.kids j in
      let above = cond (is_block f k) [] (k ∷ nodes_before f k) in
      let labels = labels_beside f law.distinct j k n.content n.kids child n.tree (is_block f k) refl ∙ labels_beyond f law.distinct j k child n above in
      ap (λ g. collapses_at f (back g (nodes_before f k))) n.tree
      ∙ ap (λ g. collapses_at f (back g (k ∷ nodes_before f k))) (nearest f law.distinct sides.Before j k child n (near_alone law sides.Before k j e))
      ∙ ap (collapses_at f) (back-join f law.distinct front (tree_of f j) (k ∷ nodes_before f k))
      ∙ collapses-back f (tree_of f j) (back front (k ∷ nodes_before f k)) (back front above) (collapses-back f front (k ∷ nodes_before f k) above (own_label k (is_block f k) refl))
      ∙ ap (λ xs. collapses_at f (back (tree_of f j) xs)) (sym labels)

  module _ (at k : NodeRef) (answer : Bool) (backward : Backward holds f at (Some k) answer) where
    pub gone_down : (j : NodeRef) → holds j → last_of f k.label ≡ Some j.label → Backward holds f at (Some j) answer
    gone_down j held last = record {
      held = backward.held;
      tree_held = held;
      first = λ e. absurd (let t = e in cc);
      same = sym (down k.label j.label last) ∙ backward.same;
    }

    module _ (leaf : last_of f k.label ≡ None) where
      at_leaf : unwrap_or (option_map yields (met f k.label)) (collapses_at f (nodes_before f k.label)) ≡ answer
      at_leaf =
          let here = law.here k backward.tree_held in
          let c = content_at f law.distinct k.label here in
          let own = own_tree f law.distinct k.label c.0 here c.1 in
          let alone : tree_of f k.label ≡ Tree k.label c.0 Nil Nil = own.1 ∙ ap (λ ks. Tree k.label c.0 ks Nil) (no_kids law sides.Before k.label own.0 own.2 leaf) in
          sym (ap (λ g. collapses_at f (back g (nodes_before f k.label))) alone ∙ at_first f k.label (nodes_before f k.label)) ∙ backward.same

      pub leaf_found : (m : Neighbour) → Some m ≡ met f k.label → not (is_solid_neighbour m) ≡ answer
      unfolding yields
      leaf_found m e = ap (λ o. unwrap_or (option_map yields o) (collapses_at f (nodes_before f k.label))) e ∙ at_leaf

      pub leaf_passed : None ≡ met f k.label → (o : Option NodeRef) → Names holds o (prev_of f k.label) → Backward holds f k o answer
      leaf_passed none o named = come_back k o answer backward.tree_held named (ap (λ o. unwrap_or (option_map yields o) (collapses_at f (nodes_before f k.label))) none ∙ at_leaf)

-- whitespace has no children
pub whitespace_leaf : {holds : NodeRef → Type 0} {f : Forest Content} {upper : ℕ} → IsValid holds f upper → (l : ℕ) → 0 < count_of f l → is_whitespace f l ≡ true → first_of f l ≡ None
unfolding is_whitespace
whitespace_leaf {f = f} law l here white =
    let t = seen f l law.distinct here in
    let node = law.nodes l t.0 t.2 in
    let own = ap (λ o. option_map_or (is_whitespace_in f (parent_of f l)) (option_map (λ (x : Seen Content). x.content) o) false) (sym t.2) ∙ white in
    ap (λ o. first_in (option_map_or (λ (x : Seen Content). x.children) o [])) t.2 ∙ ap first_in (by_content t.0.content t.0.children own node.leaf)
  where
    by_content : (c : Content) (xs : List ℕ) → is_whitespace_in f (parent_of f l) c ≡ true → (may_have_children c ≡ false → xs ≡ []) → xs ≡ []
    by_content (Words chars) xs e leaf = leaf refl
    by_content Document xs e leaf = absurd (let t = e in cc)
    by_content (Element name attributes) xs e leaf = absurd (let t = e in cc)
    by_content (Remark chars) xs e leaf = absurd (let t = e in cc)
