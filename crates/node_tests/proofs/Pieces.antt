-- A node's tree inside another, and what lies before and after a node below another.
use Rattle.std.proofs.Common.{◌≡◌, ◌≢◌, ℕ, zero, suc, ◌⊎◌, ◌+◌, ◌<◌, ◌≤◌, true, false, cond, List, ◌∷◌, ◌++◌, refl, sym, ap, ◌∙◌, subst, inl, inr, arith, eqb, nat_lt}
use Rattle.std.proofs.lemmas.Bool.{lt-ltb, le-ltb}
use Rattle.std.proofs.lemmas.Bool.Decides.{eqb_tells}
use Rattle.node_styles.specs.DomModel.Forest.{Forest, join, tops, count_of, IsDistinct, times, tree_of, preorder_onto}
use Rattle.node_styles.specs.DomModel.Forest.Forest.{Nil, Tree}
use Rattle.node_styles.proofs.DomModel.Totals.{total-without, total-join}
use Rattle.node_styles.proofs.DomModel.Links.{join-Nil, tree_of_absent, eqb_refl_true}
use Rattle.node_tests.specs.Surroundings.{earlier, later, labels_before_onto}

pub has : (n : ℕ) → 0 < n → nat_lt 0 n ≡ true
has n h = lt-ltb 0 n h

pub hasnt : (n : ℕ) → n ≡ 0 → nat_lt 0 n ≡ false
hasnt n h = le-ltb 0 n (omega (arith, h))

module _ {C : Type 0} where
  pub join_assoc : (f g h : Forest C) → join (join f g) h ≡ join f (join g h)
  join_assoc Nil g h = refl
  join_assoc (Tree l c ks rest) g h = ap (Tree l c ks) (join_assoc rest g h)

  pub count_in_tree : (f : Forest C) (n l : ℕ) → count_of (tree_of f n) l ≤ count_of f l
  count_in_tree f n l = omega (arith, total-without (λ m _. cond (eqb m l) 1 0) f n)

  pub count-join : (f g : Forest C) (l : ℕ) → count_of (join f g) l ≡ count_of f l + count_of g l
  count-join f g l = total-join (λ m _. cond (eqb m l) 1 0) f g

  -- a tree with a node's own tree in it
  off_by_count : (m l : ℕ) (ks rest : Forest C) → cond (eqb m l) 1 0 + (count_of ks l + count_of rest l) ≤ 1 → 0 < count_of ks l + count_of rest l → eqb m l ≡ false
  off_by_count m l ks rest once some = elim (eqb_tells m l) [ inl (t, _) ↦ absurd (let once' = rw t at once in omega (arith, once', some)) | inr (t, _) ↦ t ]

  -- where a node stands: at the front of a tree, below it, or after it
  pub data Where (m : ℕ) (ks rest : Forest C) (l : ℕ) : Type 0 where
    Here : m ≡ l → eqb m l ≡ true → Where m ks rest l
    Below : eqb m l ≡ false → 0 < count_of ks l → count_of rest l ≡ 0 → Where m ks rest l
    After : eqb m l ≡ false → count_of ks l ≡ 0 → 0 < count_of rest l → Where m ks rest l

  pub find_where : (m : ℕ) (ks rest : Forest C) (l : ℕ) → cond (eqb m l) 1 0 + (count_of ks l + count_of rest l) ≤ 1 → 0 < cond (eqb m l) 1 0 + (count_of ks l + count_of rest l) → Where m ks rest l
  find_where m ks rest l once some =
      elim (eqb_tells m l) [
        | inl (t, is) ↦ Here is t
        | inr (t, _) ↦ (let once' = rw t at once in let some' = rw t at some in by_count (count_of ks l) refl t once' some')
      ]
    where
      by_count : (k : ℕ) → count_of ks l ≡ k → eqb m l ≡ false → 0 + (count_of ks l + count_of rest l) ≤ 1 → 0 < 0 + (count_of ks l + count_of rest l) → Where m ks rest l
      by_count k e t once some = elim (eqb_tells k 0) [
        | inl (_, is) ↦ After t (e ∙ is) (omega (arith, e, is, some))
        | inr (_, off) ↦ Below t (omega (arith, e, off)) (omega (arith, e, off, once))
      ]

  pub once_kids : (m : ℕ) (c : C) (ks rest : Forest C) → IsDistinct (Tree m c ks rest) → IsDistinct ks
  once_kids m c ks rest once = λ k. omega (arith, once k)

  pub once_rest : (m : ℕ) (c : C) (ks rest : Forest C) → IsDistinct (Tree m c ks rest) → IsDistinct rest
  once_rest m c ks rest once = λ k. omega (arith, once k)

  pub once_tree : (f : Forest C) (n : ℕ) → IsDistinct f → IsDistinct (tree_of f n)
  once_tree f n once = λ k. omega (arith, once k, count_in_tree f n k)

  -- the tree of a node, by where it stands
  pub tree-below : (m : ℕ) (c : C) (ks rest : Forest C) (n : ℕ) → eqb m n ≡ false → count_of rest n ≡ 0 → tree_of (Tree m c ks rest) n ≡ tree_of ks n
  tree-below m c ks rest n t none = rw (t, tree_of_absent rest n none) (join-Nil (tree_of ks n))

  pub tree-after : (m : ℕ) (c : C) (ks rest : Forest C) (n : ℕ) → eqb m n ≡ false → count_of ks n ≡ 0 → tree_of (Tree m c ks rest) n ≡ tree_of rest n
  tree-after m c ks rest n t none = rw (t, tree_of_absent ks n none) refl

  -- a node's tree in a tree is its tree
  pub tree_in_tree : (f : Forest C) (n l : ℕ) → IsDistinct f → 0 < count_of (tree_of f n) l → tree_of (tree_of f n) l ≡ tree_of f l
  tree_in_tree Nil n l once h = absurd (omega (arith, h))
  tree_in_tree (Tree m c ks rest) n l once h =
      by_place (eqb_tells m n) (λ t. tree_in_tree ks n l (once_kids m c ks rest once) t) (λ t. tree_in_tree rest n l (once_rest m c ks rest once) t) h
    where
      there : 0 < count_of (tree_of (Tree m c ks rest) n) l → 0 < count_of (Tree m c ks rest) n
      there h = by_count (count_of (Tree m c ks rest) n) refl
        where
          by_count : (k : ℕ) → count_of (Tree m c ks rest) n ≡ k → 0 < count_of (Tree m c ks rest) n
          by_count zero e = absurd (let none = tree_of_absent (Tree m c ks rest) n e in let h' = rw none at h in omega (arith, h'))
          by_count (suc k) e = omega (arith, e)

      by_l : (0 < count_of (Tree m c ks Nil) l) → tree_of (Tree m c ks Nil) l ≡ tree_of (Tree m c ks rest) l
      by_l some = elim (find_where m ks rest l (once l) (omega (arith, some))) [
        | Here _ t ↦ rw t refl
        | Below t some none ↦ rw (tree-below m c ks Nil l t refl) (sym (tree-below m c ks rest l t none))
        | After t none some' ↦ absurd (let one = once l in let s = rw t at some in let o = rw t at one in omega (arith, s, o, none, some'))
      ]

      by_place : ((eqb m n ≡ true) × (m ≡ n)) ⊎ ((eqb m n ≡ false) × (m ≢ n)) → (0 < count_of (tree_of ks n) l → tree_of (tree_of ks n) l ≡ tree_of ks l) → (0 < count_of (tree_of rest n) l → tree_of (tree_of rest n) l ≡ tree_of rest l) → 0 < count_of (tree_of (Tree m c ks rest) n) l → tree_of (tree_of (Tree m c ks rest) n) l ≡ tree_of (Tree m c ks rest) l
      by_place (inl (t, _)) in_ks in_rest h = let h' = rw t at h in rw t (by_l h')
      by_place (inr (t, _)) in_ks in_rest h =
          elim (find_where m ks rest n (once n) (there h)) [
            | Here is _ ↦ absurd (let e = eqb_refl_true n in let u = rw is at t in cc)
            | Below t some none ↦ (
                let e = tree-below m c ks rest n t none in
                let h' = rw e at h in
                let low : 0 < count_of ks l = omega (arith, h', count_in_tree ks n l) in
                rw e (in_ks h' ∙ sym (tree-below m c ks rest l (off_by_count m l ks rest (once l) (omega (arith, low))) (omega (arith, once l, low)))))
            | After t none some ↦ (
                let e = tree-after m c ks rest n t none in
                let h' = rw e at h in
                let low : 0 < count_of rest l = omega (arith, h', count_in_tree rest n l) in
                rw e (in_rest h' ∙ sym (tree-after m c ks rest l (off_by_count m l ks rest (once l) (omega (arith, low))) (omega (arith, once l, low)))))
          ]

  -- ---- what lies before and after a node below another

  module _ (p l : ℕ) (d : C) (ks : Forest C) (low : 0 < count_of ks l) where
    -- the node and the one below it stand in the forest
    in_it : (g : Forest C) → tree_of g p ≡ Tree p d ks Nil → 0 < count_of g p
    in_it g e = omega (arith, count_in_tree g p p, self)
      where
        self : 0 < count_of (tree_of g p) p
        self = rw e (let t = eqb_refl_true p in rw t (omega arith))

    under_it : (g : Forest C) → tree_of g p ≡ Tree p d ks Nil → 0 < count_of g l
    under_it g e = omega (arith, count_in_tree g p l, below)
      where
        below : 0 < count_of (tree_of g p) l
        below = rw e (omega (arith, low))

    -- a fact of the node's own tree that goes on to the forest in which that tree stands
    module _ (P : Forest C → Type 0) (here : (rest : Forest C) → eqb p l ≡ false → IsDistinct ks → P (Tree p d ks rest))
        (below : (m : ℕ) (c : C) (js rest : Forest C) → eqb m p ≡ false → eqb m l ≡ false → 0 < count_of js p → 0 < count_of js l → P js → P (Tree m c js rest))
        (after : (m : ℕ) (c : C) (js rest : Forest C) → eqb m p ≡ false → eqb m l ≡ false → count_of js p ≡ 0 → count_of js l ≡ 0 → P rest → P (Tree m c js rest)) where
      goes_out : (g : Forest C) → IsDistinct g → tree_of g p ≡ Tree p d ks Nil → P g
      goes_out Nil once e = absurd (let e' = e in cc)
      goes_out (Tree m c js rest) once e =
          elim (find_where m js rest p (once p) (in_it (Tree m c js rest) e)) [
            | Here is t ↦ (
                let e' : Tree m c js Nil ≡ Tree p d ks Nil = rw t at e in
                let same : Tree p d ks rest ≡ Tree m c js rest = ap (λ g. join g rest) (sym e') in
                let once' : IsDistinct (Tree p d ks rest) = subst IsDistinct (sym same) once in
                subst P same (here rest (off_by_count p l ks rest (once' l) (omega (arith, low))) (once_kids p d ks rest once')))
            | Below t some none ↦ (
                let e' = sym (tree-below m c js rest p t none) ∙ e in
                let low' = under_it js e' in
                below m c js rest t (off_by_count m l js rest (once l) (omega (arith, low'))) some low' (goes_out js (once_kids m c js rest once) e'))
            | After t none some ↦ (
                let e' = sym (tree-after m c js rest p t none) ∙ e in
                let low' = under_it rest e' in
                after m c js rest t (off_by_count m l js rest (once l) (omega (arith, low'))) none (omega (arith, once l, low')) (goes_out rest (once_rest m c js rest once) e'))
          ]

    pub later-below : (g : Forest C) → IsDistinct g → tree_of g p ≡ Tree p d ks Nil → later g l ≡ join (later ks l) (later g p)
    later-below =
        goes_out (λ g. later g l ≡ join (later ks l) (later g p))
        (λ rest off once. let t = eqb_refl_true p in rw (t, off, has (count_of ks l) low) refl)
        (λ m c js rest t off some low' same. rw (t, off, has (count_of js p) some, has (count_of js l) low') (ap (λ x. join x rest) same ∙ join_assoc (later ks l) (later js p) rest))
        (λ m c js rest t off none none' same. rw (t, off, hasnt (count_of js p) none, hasnt (count_of js l) none') same)

    pub earlier-below : (g : Forest C) → IsDistinct g → tree_of g p ≡ Tree p d ks Nil → earlier g l ≡ join (earlier g p) (earlier ks l)
    earlier-below =
        goes_out (λ g. earlier g l ≡ join (earlier g p) (earlier ks l))
        (λ rest off once. let t = eqb_refl_true p in rw (t, off, has (count_of ks l) low) refl)
        (λ m c js rest t off some low' same. rw (t, off, has (count_of js p) some, has (count_of js l) low') same)
        (λ m c js rest t off none none' same. rw (t, off, hasnt (count_of js p) none, hasnt (count_of js l) none') (ap (Tree m c js) same))

  -- the labels of a forest before others, the last first
  abbrev pub back : Forest C → List ℕ → List ℕ
  back Nil a = a
  back (Tree m c ks rest) a = back rest (back ks (m ∷ a))

  skip : (f : Forest C) (l : ℕ) (a xs : List ℕ) → count_of f l ≡ 0 → labels_before_onto a (preorder_onto f xs) l ≡ labels_before_onto (back f a) xs l
  skip Nil l a xs none = refl
  skip (Tree m c ks rest) l a xs none =
      elim (eqb_tells m l) [
        | inl (t, _) ↦ absurd (let none' = rw t at none in omega (arith, none'))
        | inr (t, _) ↦ (let none' = rw t at none in
            rw t (skip ks l (m ∷ a) (preorder_onto rest xs) (omega (arith, none')) ∙ skip rest l (back ks (m ∷ a)) xs (omega (arith, none'))))
      ]

  -- what stands behind a forest doesn't matter to a label in it
  only : (f : Forest C) (l : ℕ) (a xs ys : List ℕ) → IsDistinct f → 0 < count_of f l → labels_before_onto a (preorder_onto f xs) l ≡ labels_before_onto a (preorder_onto f ys) l
  only Nil l a xs ys once h = absurd (omega (arith, h))
  only (Tree m c ks rest) l a xs ys once h =
      elim (find_where m ks rest l (once l) h) [
        | Here _ t ↦ rw t refl
        | Below t some _ ↦ rw t (only ks l (m ∷ a) (preorder_onto rest xs) (preorder_onto rest ys) (once_kids m c ks rest once) some)
        | After t none some ↦ rw t (
            skip ks l (m ∷ a) (preorder_onto rest xs) none
            ∙ only rest l (back ks (m ∷ a)) xs ys (once_rest m c ks rest once) some
            ∙ sym (skip ks l (m ∷ a) (preorder_onto rest ys) none))
      ]

  module _ (p l : ℕ) (d : C) (ks : Forest C) (low : 0 < count_of ks l) (ys : List ℕ) where
    pub labels-below : (g : Forest C) (a xs : List ℕ) → IsDistinct g → tree_of g p ≡ Tree p d ks Nil → labels_before_onto a (preorder_onto g xs) l ≡ labels_before_onto (p ∷ labels_before_onto a (preorder_onto g xs) p) (preorder_onto ks ys) l
    labels-below g a xs once e =
        goes_out p l d ks low (λ g. (a xs : List ℕ) → labels_before_onto a (preorder_onto g xs) l ≡ labels_before_onto (p ∷ labels_before_onto a (preorder_onto g xs) p) (preorder_onto ks ys) l)
        (λ rest off once a xs. let t = eqb_refl_true p in rw (t, off) (only ks l (p ∷ a) (preorder_onto rest xs) ys once low))
        (λ m c js rest t off some low' same a xs. rw (t, off) (same (m ∷ a) (preorder_onto rest xs)))
        (λ m c js rest t off none none' same a xs. rw (t, off)
        (skip js l (m ∷ a) (preorder_onto rest xs) none'
        ∙ same (back js (m ∷ a)) xs
        ∙ ap (λ x. labels_before_onto (p ∷ x) (preorder_onto ks ys) l) (sym (skip js p (m ∷ a) (preorder_onto rest xs) none))))
        g once e a xs

  -- ---- siblings

  -- a forest split at one of its trees
  pub record Split (ks : Forest C) (l : ℕ) : Type 0 where
    pub front : Forest C
    pub content : C
    pub kids : Forest C
    pub rest : Forest C
    pub is : ks ≡ join front (Tree l content kids rest)

  pub split_at : (ks : Forest C) (l : ℕ) → 0 < times (tops ks) l → Split ks l
  split_at Nil l h = absurd (omega (arith, h))
  split_at (Tree m c js rest) l h =
      elim (eqb_tells m l) [
        | inl (_, is) ↦ record { front = Nil; content = c; kids = js; rest = rest; is = ap (λ k. Tree k c js rest) is }
        | inr (t, _) ↦ (
            let h' = rw t at h in
            let r = split_at rest l (omega (arith, h')) in
            record { front = Tree m c js r.front; content = r.content; kids = r.kids; rest = r.rest; is = ap (Tree m c js) r.is })
      ]

  pub tops-join : (f g : Forest C) → tops (join f g) ≡ tops f ++ tops g
  tops-join Nil g = refl
  tops-join (Tree m c ks rest) g = ap (λ xs. m ∷ xs) (tops-join rest g)

  module _ (l : ℕ) (c : C) (js rest : Forest C) where
    at_it : eqb l l ≡ true
    at_it = eqb_refl_true l

    pub later-split : (front : Forest C) → count_of front l ≡ 0 → later (join front (Tree l c js rest)) l ≡ rest
    later-split Nil none = rw at_it refl
    later-split (Tree m d is more) none =
        elim (eqb_tells m l) [
          | inl (t, _) ↦ absurd (let none' = rw t at none in omega (arith, none'))
          | inr (t, _) ↦ (let none' = rw t at none in
              rw (t, hasnt (count_of is l) (omega (arith, none'))) (later-split more (omega (arith, none'))))
        ]

    pub earlier-split : (front : Forest C) → count_of front l ≡ 0 → earlier (join front (Tree l c js rest)) l ≡ front
    earlier-split Nil none = rw at_it refl
    earlier-split (Tree m d is more) none =
        elim (eqb_tells m l) [
          | inl (t, _) ↦ absurd (let none' = rw t at none in omega (arith, none'))
          | inr (t, _) ↦ (let none' = rw t at none in
              rw (t, hasnt (count_of is l) (omega (arith, none'))) (ap (Tree m d is) (earlier-split more (omega (arith, none')))))
        ]

    pub tree-split : (front : Forest C) → count_of front l ≡ 0 → tree_of (join front (Tree l c js rest)) l ≡ Tree l c js Nil
    tree-split Nil none = rw at_it refl
    tree-split (Tree m d is more) none =
        elim (eqb_tells m l) [
          | inl (t, _) ↦ absurd (let none' = rw t at none in omega (arith, none'))
          | inr (t, _) ↦ (let none' = rw t at none in
              tree-after m d is (join more (Tree l c js rest)) l t (omega (arith, none')) ∙ tree-split more (omega (arith, none')))
        ]

    pub labels-split : (front : Forest C) (a xs : List ℕ) → count_of front l ≡ 0 → labels_before_onto a (preorder_onto (join front (Tree l c js rest)) xs) l ≡ back front a
    labels-split Nil a xs none = rw at_it refl
    labels-split (Tree m d is more) a xs none =
        elim (eqb_tells m l) [
          | inl (t, _) ↦ absurd (let none' = rw t at none in omega (arith, none'))
          | inr (t, _) ↦ (let none' = rw t at none in
              rw t (skip is l (m ∷ a) (preorder_onto (join more (Tree l c js rest)) xs) (omega (arith, none')) ∙ labels-split more (back is (m ∷ a)) xs (omega (arith, none'))))
        ]
