-- What the document becomes by each change of the trees, and the lengths of its nodes.
use Rattle.std.proofs.Common.{◌≡◌, ◌≢◌, ◌⊎◌, ℕ, zero, suc, ◌+◌, ◌<◌, ◌≤◌, Bool, true, false, cond, eqb, List, [], ◌∷◌, length, Option, Some, None, refl, sym, ap, subst, ◌∙◌, inl, inr, arith, true≢false, nat_lt}
use Rattle.std.proofs.lemmas.Bool.Decides.{eqb_tells}
use Rattle.std.proofs.lemmas.Bool.{le-ltb, eq-eqb, ne_eqb}
use Rattle.std.specs.Option.{option_map, option_map_or}
use Rattle.point_order.specs.DomModel.declared.Content.{Content}
use Rattle.point_order.specs.DomModel.declared.Content.TheVariants.{Document, Element, Words, Remark}
use Rattle.point_order.specs.DomModel.Contents.{is_parent_at, may_have_children, length_in, length_of}
use Rattle.point_order.specs.DomModel.Forest.{Forest, Seen, total, times, is_label, put_in, taken_from, count_of, tree_of, parent_of, children_of, content_of, without, put_rising, put_before, put_under, link, unlink, with_leaf, IsDistinct, IsWithin, CanPut}
use Rattle.point_order.specs.DomModel.Forest.Forest.{Nil, Tree}
use Rattle.point_order.specs.DomModel.Places.{place_in, index_of}
use Rattle.point_order.specs.DomModel.Revised.{revised}
use Rattle.point_order.proofs.DomModel.Totals.{total-join, total-without, total-put_before, total-put_under}
use Rattle.point_order.proofs.DomModel.Links.{children_of-link, children_of-unlink, children_of-with_leaf, times_n, tree_of_absent, p_of_n}
use Rattle.point_order.proofs.DomModel.Move.{tree_of-unlink}
use Rattle.point_order.proofs.DomModel.DropTree.{without_absent}
use Rattle.point_order.proofs.DomModel.Within.{within_root, within_step, within_child}
use Rattle.point_order.proofs.DomModel.Walks.{document_first}
use Rattle.point_order.proofs.DomModel.Kept.{content_of-link, content_of-unlink, content_of-with_leaf_other}
use Rattle.point_order.proofs.DomModel.Revising.{total-revised}
use Rattle.edit_model.specs.Valid.{IsForest}
use Rattle.edit_model.proofs.Forests.{forest-unlink, inner_child, fresh}

-- ---- where the document is the first tree

module _ {C : Type 0} where
  document_of-without : (c : C) (ks rest : Forest C) (n : ℕ) → 0 < n → tree_of (without (Tree 0 c ks rest) n) 0 ≡ without (tree_of (Tree 0 c ks rest) 0) n
  document_of-without c ks rest n inner = let off : eqb 0 n ≡ false = ne_eqb 0 n (λ e. omega (arith, inner, e)) in rw off refl

  document_of-put_rising : (c : C) (ks rest : Forest C) (n : ℕ) (t : Forest C) → tree_of (put_rising (Tree 0 c ks rest) n t) 0 ≡ tree_of (Tree 0 c ks rest) 0
  document_of-put_rising c ks rest n t = let high : nat_lt n 0 ≡ false = le-ltb n 0 (omega arith) in rw high refl

  document_of-put_under : (c : C) (ks rest : Forest C) (p : ℕ) (b : Option ℕ) (t : Forest C) → tree_of (put_under (Tree 0 c ks rest) p b t) 0 ≡ put_under (tree_of (Tree 0 c ks rest) 0) p b t
  document_of-put_under c ks rest p b t = elim (eqb 0 p) as (λ v. tree_of (cond v (Tree 0 c (put_before ks b t) rest) (Tree 0 c (put_under ks p b t) (put_under rest p b t))) 0 ≡ cond v (Tree 0 c (put_before ks b t) Nil) (Tree 0 c (put_under ks p b t) Nil)) [
    | true ↦ refl
    | false ↦ refl
  ]

  pub document_of-unlink : (f : Forest C) (c : C) (ks rest : Forest C) (n : ℕ) → f ≡ Tree 0 c ks rest → 0 < n → tree_of (unlink f n) 0 ≡ without (tree_of f 0) n
  document_of-unlink f c ks rest n is inner = subst (λ g. tree_of (unlink g n) 0 ≡ without (tree_of g 0) n) (sym is) (at_tree)
    where
      at_tree : tree_of (unlink (Tree 0 c ks rest) n) 0 ≡ without (tree_of (Tree 0 c ks rest) 0) n
      at_tree =
          let off : eqb 0 n ≡ false = ne_eqb 0 n (λ e. omega (arith, inner, e)) in
          let high : nat_lt n 0 ≡ false = le-ltb n 0 (omega arith) in
          rw (off, high) refl

  pub document_of-link : (f : Forest C) (c : C) (ks rest : Forest C) (p : ℕ) (b : Option ℕ) (n : ℕ) → f ≡ Tree 0 c ks rest → 0 < n → tree_of (link f p b n) 0 ≡ put_under (without (tree_of f 0) n) p b (tree_of f n)
  document_of-link f c ks rest p b n is inner = subst (λ g. tree_of (link g p b n) 0 ≡ put_under (without (tree_of g 0) n) p b (tree_of g n)) (sym is) (at_tree (tree_of (Tree 0 c ks rest) n))
    where
      at_tree : (t : Forest C) → tree_of (put_under (without (Tree 0 c ks rest) n) p b t) 0 ≡ put_under (without (tree_of (Tree 0 c ks rest) 0) n) p b t
      at_tree t =
          let off : eqb 0 n ≡ false = ne_eqb 0 n (λ e. omega (arith, inner, e)) in
          rw off (document_of-put_under c (without ks n) (without rest n) p b t)

  pub document_of-with_leaf : (f : Forest C) (c : C) (ks rest : Forest C) (l : ℕ) (d : C) → f ≡ Tree 0 c ks rest → tree_of (with_leaf f l d) 0 ≡ tree_of f 0
  document_of-with_leaf f c ks rest l d is = subst (λ g. tree_of (with_leaf g l d) 0 ≡ tree_of g 0) (sym is) refl

  pub document_of-revised : (f : Forest C) (c : C) (ks rest : Forest C) (n : ℕ) (g : C → C) → f ≡ Tree 0 c ks rest → tree_of (revised f n g) 0 ≡ revised (tree_of f 0) n g
  document_of-revised f c ks rest n g is = subst (λ h. tree_of (revised h n g) 0 ≡ revised (tree_of h 0) n g) (sym is) refl

  -- a tree put in adds, wherever it goes
  pub put_under_more : (w : ℕ → C → ℕ) (f : Forest C) (p : ℕ) (b : Option ℕ) (t : Forest C) → total w f ≤ total w (put_under f p b t)
  put_under_more w Nil p b t = omega arith
  put_under_more w (Tree m c ks rest) p b t = elim (eqb_tells m p) [
    | inl (u, _) ↦ rw u (omega (arith, total-put_before w ks b t))
    | inr (u, _) ↦ rw u (omega (arith, put_under_more w ks p b t, put_under_more w rest p b t))
  ]

  -- what the document has of a tree is of that tree
  pub part_of_tree : (f : Forest C) (c : C) (ks rest : Forest C) (n l : ℕ) → f ≡ Tree 0 c ks rest → 0 < n → count_of (tree_of (tree_of f 0) n) l ≤ count_of (tree_of f n) l
  part_of_tree f c ks rest n l is inner = subst (λ g. count_of (tree_of (tree_of g 0) n) l ≤ count_of (tree_of g n) l) (sym is) at_tree
    where
      at_tree : count_of (tree_of (tree_of (Tree 0 c ks rest) 0) n) l ≤ count_of (tree_of (Tree 0 c ks rest) n) l
      at_tree =
          let off : eqb 0 n ≡ false = ne_eqb 0 n (λ e. omega (arith, inner, e)) in
          rw off (omega (arith, total-join (λ m _. cond (eqb m l) 1 0) (tree_of ks n) Nil, total-join (λ m _. cond (eqb m l) 1 0) (tree_of ks n) (tree_of rest n)))

  -- a tree of which something is in the document is in it
  pub tree_inside : (f : Forest C) (c : C) (ks rest : Forest C) (n l : ℕ) → IsDistinct f → f ≡ Tree 0 c ks rest → 0 < n → IsWithin f n l → IsWithin f 0 l → IsWithin f 0 n
  tree_inside f c ks rest n l once is inner = subst (λ g. IsDistinct g → IsWithin g n l → IsWithin g 0 l → IsWithin g 0 n) (sym is) at_tree once
    where
      at_tree : IsDistinct (Tree 0 c ks rest) → IsWithin (Tree 0 c ks rest) n l → IsWithin (Tree 0 c ks rest) 0 l → IsWithin (Tree 0 c ks rest) 0 n
      at_tree once in_n in_0 = by_count (count_of ks n) refl
        where
          off : eqb 0 n ≡ false
          off = ne_eqb 0 n (λ e. omega (arith, inner, e))

          by_count : (k : ℕ) → count_of ks n ≡ k → IsWithin (Tree 0 c ks rest) 0 n
          by_count (suc k) e = omega (arith, e)
          by_count zero e =
              let none = tree_of_absent ks n e in
              let in_n' = rw off at in_n in
              let in_rest = rw none at in_n' in
              absurd (omega (arith, in_rest, total-without (λ m _. cond (eqb m l) 1 0) rest n, once l, in_0))

-- ---- what stays in the document

module _ (f : Forest Content) (next : ℕ) (is : IsForest f next) where
  pub document_shape : (c : Content) × (ks : Forest Content) × (rest : Forest Content) × (f ≡ Tree 0 c ks rest)
  document_shape = document_first f is.distinct is.rising is.document is.root

  loose_outside : (n : ℕ) → 0 < n → parent_of f n ≡ None → count_of (tree_of f 0) n ≡ 0
  loose_outside n inner loose = by_count (count_of (tree_of f 0) n) refl
    where
      by_count : (k : ℕ) → count_of (tree_of f 0) n ≡ k → k ≡ 0
      by_count zero e = refl
      by_count (suc k) e = absurd (within_root f 0 is.distinct is.document n (λ z. omega (arith, inner, z)) loose (omega (arith, e)))

  pub document-link : (p : ℕ) (b : Option ℕ) (n : ℕ) → CanPut f p b n → tree_of (link f p b n) 0 ≡ put_under (tree_of f 0) p b (tree_of f n)
  document-link p b n can =
      let d = document_shape in
      document_of-link f d.0 d.1 d.2 p b n d.3 can.inner
      ∙ ap (λ g. put_under g p b (tree_of f n)) (without_absent (tree_of f 0) n (loose_outside n can.inner can.loose))

  pub document-unlink : (o n : ℕ) → parent_of f n ≡ Some o → tree_of (unlink f n) 0 ≡ without (tree_of f 0) n
  document-unlink o n child = let d = document_shape in document_of-unlink f d.0 d.1 d.2 n d.3 (inner_child f next is o n child)

  pub document-with_leaf : (l : ℕ) (c : Content) → tree_of (with_leaf f l c) 0 ≡ tree_of f 0
  document-with_leaf l c = let d = document_shape in document_of-with_leaf f d.0 d.1 d.2 l c d.3

  pub document-revised : (n : ℕ) (g : Content → Content) → tree_of (revised f n g) 0 ≡ revised (tree_of f 0) n g
  document-revised n g = let d = document_shape in document_of-revised f d.0 d.1 d.2 n g d.3

  pub within-link : (p : ℕ) (b : Option ℕ) (n l : ℕ) → CanPut f p b n → IsWithin f 0 l → IsWithin (link f p b n) 0 l
  within-link p b n l can h = rw (document-link p b n can) (omega (arith, h, put_under_more (λ m _. cond (eqb m l) 1 0) (tree_of f 0) p b (tree_of f n)))

  pub within-unlink : (o n l : ℕ) → parent_of f n ≡ Some o → count_of (tree_of f n) l ≡ 0 → IsWithin f 0 l → IsWithin (unlink f n) 0 l
  within-unlink o n l child off h =
      let d = document_shape in
      rw (document-unlink o n child)
      (omega (arith, h, off, total-without (λ m _. cond (eqb m l) 1 0) (tree_of f 0) n, part_of_tree f d.0 d.1 d.2 n l d.3 (inner_child f next is o n child)))

  pub within-with_leaf : (n l : ℕ) (c : Content) → IsWithin f 0 l → IsWithin (with_leaf f n c) 0 l
  within-with_leaf n l c h = rw (document-with_leaf n c) h

  pub within-revised : (n l : ℕ) (g : Content → Content) → IsWithin f 0 l → IsWithin (revised f n g) 0 l
  within-revised n l g h = rw (document-revised n g) (omega (arith, h, total-revised n g (λ m. cond (eqb m l) 1 0) (tree_of f 0)))

  pub within_inside : (o n l : ℕ) → parent_of f n ≡ Some o → IsWithin f n l → IsWithin f 0 l → IsWithin f 0 n
  within_inside o n l child in_n in_0 = let d = document_shape in tree_inside f d.0 d.1 d.2 n l is.distinct d.3 (inner_child f next is o n child) in_n in_0

  -- a node of the document has its parent there, and its children
  pub within_above : (o n : ℕ) → parent_of f n ≡ Some o → IsWithin f 0 n → IsWithin f 0 o
  within_above o n child h = within_step f 0 is.distinct is.document n o (λ z. (let i = inner_child f next is o n child in omega (arith, i, z))) child h

  pub within_below : (o n : ℕ) → parent_of f n ≡ Some o → IsWithin f 0 o → IsWithin f 0 n
  within_below o n child h = within_child f 0 is.distinct is.document n o child h

-- a node of the document stays in it where a tree moves that stays in it
pub within-move : (f : Forest Content) (next : ℕ) → IsForest f next → (o n p : ℕ) (b : Option ℕ) (l : ℕ) → parent_of f n ≡ Some o → CanPut (unlink f n) p b n → count_of (tree_of f n) p ≡ 0 → (IsWithin f 0 n → IsWithin f 0 p) → IsWithin f 0 l → IsWithin (link (unlink f n) p b n) 0 l
within-move f next is o n p b l child can apart goes h = by_count (count_of (tree_of f n) l) refl
  where
    loose : IsForest (unlink f n) next
    loose = forest-unlink f next is o n child

    by_count : (k : ℕ) → count_of (tree_of f n) l ≡ k → IsWithin (link (unlink f n) p b n) 0 l
    by_count zero e = within-link (unlink f n) next loose p b n l can (within-unlink f next is o n l child e h)
    by_count (suc k) e =
        let to = goes (within_inside f next is o n l child (omega (arith, e)) h) in
        let there : IsWithin (unlink f n) 0 p = within-unlink f next is o n p child apart to in
        let once : count_of (tree_of (unlink f n) 0) p ≡ 1 = omega (arith, there, total-without (λ m _. cond (eqb m p) 1 0) (unlink f n) 0, loose.distinct p) in
        let moved : 0 < count_of (tree_of (unlink f n) n) l = rw (tree_of-unlink f o n is.distinct child) (omega (arith, e)) in
        rw (document-link (unlink f n) next loose p b n can)
        (omega (arith, moved, total-put_under (λ m _. cond (eqb m l) 1 0) (tree_of (unlink f n) 0) p b (tree_of (unlink f n) n) once))

-- ---- lengths

pub length-put_in : (xs : List ℕ) (b : Option ℕ) (n : ℕ) → length (put_in xs b n) ≡ length xs + 1
length-put_in [] b n = refl
length-put_in (x ∷ xs) b n = elim (is_label b x) as (λ v. length (cond v (n ∷ x ∷ xs) (x ∷ put_in xs b n)) ≡ length (x ∷ xs) + 1) [
  | true ↦ omega arith
  | false ↦ omega (arith, length-put_in xs b n)
]

pub length-taken_from : (xs : List ℕ) (n : ℕ) → 0 < times xs n → length (taken_from xs n) + 1 ≡ length xs
length-taken_from [] n some = absurd (omega (arith, some))
length-taken_from (x ∷ xs) n some = elim (eqb_tells x n) [
  | inl (t, _) ↦ rw t (omega arith)
  | inr (t, _) ↦ (let some' = rw t at some in rw t (omega (arith, length-taken_from xs n (omega (arith, some')))))
]

pub place_in_length : (xs : List ℕ) (l : ℕ) → place_in xs l ≤ length xs
place_in_length [] l = omega arith
place_in_length (x ∷ xs) l = elim (eqb x l) as (λ v. cond v 0 (place_in xs l + 1) ≤ length (x ∷ xs)) [
  | true ↦ omega arith
  | false ↦ omega (arith, place_in_length xs l)
]

pub place_in_low : (xs : List ℕ) (l : ℕ) → 0 < times xs l → place_in xs l < length xs
place_in_low [] l some = absurd (omega (arith, some))
place_in_low (x ∷ xs) l some = elim (eqb_tells x l) [
  | inl (t, _) ↦ rw t (omega arith)
  | inr (t, _) ↦ (let some' = rw t at some in rw t (omega (arith, place_in_low xs l (omega (arith, some')))))
]

parent_length : (o : Option Content) (xs : List ℕ) → option_map_or may_have_children o false ≡ true → option_map_or (λ c. length_in c xs) o 0 ≡ length xs
parent_length None xs h = absurd (true≢false (sym h))
parent_length (Some Document) xs h = refl
parent_length (Some (Element name attributes)) xs h = refl
parent_length (Some (Words chars)) xs h = absurd (true≢false (sym h))
parent_length (Some (Remark chars)) xs h = absurd (true≢false (sym h))

-- the length of the Document and of an element is the count of its children
pub length_of-parent : (f : Forest Content) (p : ℕ) → is_parent_at f p ≡ true → length_of f p ≡ length (children_of f p)
length_of-parent f p h = parent_length (content_of f p) (children_of f p) h

-- the length of a node whose content and children stay
pub length_of-same : (f g : Forest Content) (l : ℕ) → content_of g l ≡ content_of f l → children_of g l ≡ children_of f l → length_of g l ≡ length_of f l
length_of-same f g l same kids = rw (same, kids) refl

module _ (f : Forest Content) (next : ℕ) (is : IsForest f next) where
  pub length_of-link : (p : ℕ) (b : Option ℕ) (n : ℕ) → CanPut f p b n → is_parent_at f p ≡ true → length_of (link f p b n) p ≡ length_of f p + 1
  length_of-link p b n can parent =
      let same = content_of-link f p b n p is.distinct can in
      let parent' : is_parent_at (link f p b n) p ≡ true = ap (λ (c : Option Content). option_map_or may_have_children c false) same ∙ parent in
      let own : eqb p p ≡ true = eq-eqb p p refl in
      let kids : children_of (link f p b n) p ≡ put_in (children_of f p) b n = children_of-link f p b n is.distinct can p ∙ rw own refl in
      omega (arith, length_of-parent f p parent, length_of-parent (link f p b n) p parent', ap length kids, length-put_in (children_of f p) b n)

  pub length_of-link_other : (p : ℕ) (b : Option ℕ) (n l : ℕ) → CanPut f p b n → p ≢ l → length_of (link f p b n) l ≡ length_of f l
  length_of-link_other p b n l can off =
      let other : eqb p l ≡ false = ne_eqb p l off in
      length_of-same f (link f p b n) l (content_of-link f p b n l is.distinct can) (children_of-link f p b n is.distinct can l ∙ rw other refl)

  -- a node with children is the Document or an element
  pub has_children : (o n : ℕ) → parent_of f n ≡ Some o → is_parent_at f o ≡ true
  has_children o n child = elim (cases_of (is_parent_at f o)) [
    | inl is_one ↦ is_one
    | inr isnt ↦ absurd (
        let r = p_of_n f o n is.distinct child in
        let same : may_have_children r.0.content ≡ false = sym (ap (λ (x : Option (Seen Content)). option_map_or may_have_children (option_map (λ y. y.content) x) false) r.2) ∙ isnt in
        let none : r.0.children ≡ [] = (is.nodes o r.0 r.2).leaf same in
        let some : 0 < times r.0.children n = r.3 in
        let some' = rw none at some in
        omega (arith, some'))
  ]
    where
      cases_of : (v : Bool) → (v ≡ true) ⊎ (v ≡ false)
      cases_of true = inl refl
      cases_of false = inr refl

  pub length_of-unlink : (o n : ℕ) → parent_of f n ≡ Some o → length_of (unlink f n) o + 1 ≡ length_of f o
  length_of-unlink o n child =
      let parent = has_children o n child in
      let same = content_of-unlink f o n o is.distinct child in
      let parent' : is_parent_at (unlink f n) o ≡ true = ap (λ (c : Option Content). option_map_or may_have_children c false) same ∙ parent in
      let own : eqb o o ≡ true = eq-eqb o o refl in
      let kids : children_of (unlink f n) o ≡ taken_from (children_of f o) n = children_of-unlink f o n is.distinct child o ∙ rw own refl in
      omega (arith, length_of-parent f o parent, length_of-parent (unlink f n) o parent', ap length kids, length-taken_from (children_of f o) n (omega (arith, times_n f o n is.distinct child)))

  pub length_of-unlink_other : (o n l : ℕ) → parent_of f n ≡ Some o → o ≢ l → length_of (unlink f n) l ≡ length_of f l
  length_of-unlink_other o n l child off =
      let other : eqb o l ≡ false = ne_eqb o l off in
      length_of-same f (unlink f n) l (content_of-unlink f o n l is.distinct child) (children_of-unlink f o n is.distinct child l ∙ rw other refl)

  pub length_of-with_leaf : (c : Content) (l : ℕ) → next ≢ l → length_of (with_leaf f next c) l ≡ length_of f l
  length_of-with_leaf c l off =
      length_of-same f (with_leaf f next c) l (content_of-with_leaf_other f next c l (fresh f next is) off) (children_of-with_leaf f next c (fresh f next is) l)

  -- a child's index is below its parent's length
  pub index_below : (o n : ℕ) → parent_of f n ≡ Some o → index_of f n < length_of f o
  index_below o n child =
      let parent = has_children o n child in
      let at : index_of f n ≡ place_in (children_of f o) n = ap (λ (q : Option ℕ). option_map_or (λ p. place_in (children_of f p) n) q 0) child in
      omega (arith, at, length_of-parent f o parent, place_in_low (children_of f o) n (omega (arith, times_n f o n is.distinct child)))
