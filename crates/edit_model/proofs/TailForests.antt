-- What is within a tree of a forest where a tree that doesn't hold a node is taken out or put in.
use Rattle.std.proofs.Common.{◌≡◌, ℕ, ◌+◌, ◌<◌, ◌≤◌, false, cond, eqb, Option, Some, refl, sym, ap, subst, ◌∙◌, inl, inr, arith, nat_lt}
use Rattle.std.proofs.lemmas.Bool.Decides.{eqb_tells}
use Rattle.std.proofs.lemmas.Bool.{cases_Bool}
use Rattle.point_order.specs.DomModel.Forest.{Forest, join, is_label, count_of, tree_of, parent_of, without, put_before, put_under, put_rising, link, unlink, with_leaf, IsDistinct, IsWithin, CanPut}
use Rattle.point_order.specs.DomModel.Forest.Forest.{Nil, Tree}
use Rattle.point_order.proofs.DomModel.Totals.{total-join, total-without, total-put_before}
use Rattle.point_order.proofs.DomModel.Links.{tree_n, tree_of_absent, parent_of-link, seen, IsDistinct-link, total-link}
use Rattle.point_order.proofs.DomModel.Within.{within_child, within_self}
use Rattle.edit_model.proofs.Trees.{tree_of-rising_other, within_trans}
use Rattle.edit_model.proofs.Islands.{link_elsewhere}

module _ {C : Type 0} where
  -- ---- nothing comes in

  -- a first tree whose children hold no more, with no more in them and behind it
  fewer-tree : (m : ℕ) (c : C) (ks kids rest other : Forest C) (y l : ℕ) → count_of kids l ≤ count_of ks l → count_of (tree_of kids y) l ≤ count_of (tree_of ks y) l → count_of (tree_of other y) l ≤ count_of (tree_of rest y) l → count_of (tree_of (Tree m c kids other) y) l ≤ count_of (tree_of (Tree m c ks rest) y) l
  fewer-tree m c ks kids rest other y l held inside behind = elim (eqb_tells m y) [
    | inl (u, _) ↦ rw u (omega (arith, held))
    | inr (u, _) ↦
        rw u
        (omega (
          arith,
          inside,
          behind,
          total-join (λ k _. cond (eqb k l) 1 0) (tree_of ks y) (tree_of rest y),
          total-join (λ k _. cond (eqb k l) 1 0) (tree_of kids y) (tree_of other y),
        ))
  ]

  fewer-without : (f : Forest C) (n y l : ℕ) → IsDistinct f → count_of (tree_of (without f n) y) l ≤ count_of (tree_of f y) l
  fewer-without Nil n y l once = omega arith
  fewer-without (Tree m c ks rest) n y l once =
      let once_ks : IsDistinct ks = λ k. (let q = once k in omega (arith, q)) in
      let once_rest : IsDistinct rest = λ k. (let q = once k in omega (arith, q)) in
      elim (eqb_tells m n) [
        | inl (t, _) ↦ elim (eqb_tells m y) [
          | inl (u, _) ↦ (
              let o = once y in
              let o' = rw u at o in
              rw (t, u, tree_of_absent rest y (omega (arith, o'))) (omega arith))
          | inr (u, _) ↦ rw (t, u) (omega (arith, total-join (λ k _. cond (eqb k l) 1 0) (tree_of ks y) (tree_of rest y)))
        ]
        | inr (t, _) ↦ rw t (fewer-tree m c ks (without ks n) rest (without rest n) y l (omega (arith, total-without (λ k _. cond (eqb k l) 1 0) ks n)) (fewer-without ks n y l once_ks) (fewer-without rest n y l once_rest))
      ]

  fewer-join : (f g : Forest C) (y l : ℕ) → count_of g l ≡ 0 → count_of (tree_of (join f g) y) l ≤ count_of (tree_of f y) l
  fewer-join Nil g y l none = omega (arith, none, total-without (λ k _. cond (eqb k l) 1 0) g y)
  fewer-join (Tree m c ks rest) g y l none = fewer-tree m c ks ks rest (join rest g) y l (omega arith) (omega arith) (fewer-join rest g y l none)

  -- a tree without l before others
  before : (t g : Forest C) (y l : ℕ) → count_of t l ≡ 0 → count_of (tree_of (join t g) y) l ≤ count_of (tree_of g y) l
  before Nil g y l none = omega arith
  before (Tree m c ks rest) g y l none = elim (eqb_tells m y) [
    | inl (u, _) ↦ rw u (omega (arith, none))
    | inr (u, _) ↦
        rw u
        (omega (
          arith,
          none,
          before rest g y l (omega (arith, none)),
          total-without (λ k _. cond (eqb k l) 1 0) ks y,
          total-join (λ k _. cond (eqb k l) 1 0) (tree_of ks y) (tree_of (join rest g) y),
        ))
  ]

  fewer-rising : (f : Forest C) (n : ℕ) (t : Forest C) (y l : ℕ) → count_of t l ≡ 0 → count_of (tree_of (put_rising f n t) y) l ≤ count_of (tree_of f y) l
  fewer-rising Nil n t y l none = omega (arith, none, total-without (λ k _. cond (eqb k l) 1 0) t y)
  fewer-rising (Tree m c ks rest) n t y l none = elim (cases_Bool (nat_lt n m)) [
    | inl v ↦ rw v (before t (Tree m c ks rest) y l none)
    | inr v ↦ rw v (fewer-tree m c ks ks rest (put_rising rest n t) y l (omega arith) (omega arith) (fewer-rising rest n t y l none))
  ]

  fewer-before : (f : Forest C) (b : Option ℕ) (t : Forest C) (y l : ℕ) → count_of t l ≡ 0 → count_of (tree_of (put_before f b t) y) l ≤ count_of (tree_of f y) l
  fewer-before Nil b t y l none = omega (arith, none, total-without (λ k _. cond (eqb k l) 1 0) t y)
  fewer-before (Tree m c ks rest) b t y l none = elim (cases_Bool (is_label b m)) [
    | inl v ↦ rw v (before t (Tree m c ks rest) y l none)
    | inr v ↦ rw v (fewer-tree m c ks ks rest (put_before rest b t) y l (omega arith) (omega arith) (fewer-before rest b t y l none))
  ]

  total-under : (f : Forest C) (p : ℕ) (b : Option ℕ) (t : Forest C) (l : ℕ) → count_of t l ≡ 0 → count_of (put_under f p b t) l ≡ count_of f l
  total-under Nil p b t l none = refl
  total-under (Tree m c ks rest) p b t l none = elim (eqb_tells m p) [
    | inl (v, _) ↦ rw v (omega (arith, none, total-put_before (λ k _. cond (eqb k l) 1 0) ks b t))
    | inr (v, _) ↦ rw v (omega (arith, total-under ks p b t l none, total-under rest p b t l none))
  ]

  fewer-under : (f : Forest C) (p : ℕ) (b : Option ℕ) (t : Forest C) (y l : ℕ) → count_of t l ≡ 0 → count_of (tree_of (put_under f p b t) y) l ≤ count_of (tree_of f y) l
  fewer-under Nil p b t y l none = omega arith
  fewer-under (Tree m c ks rest) p b t y l none = elim (eqb_tells m p) [
    | inl (v, _) ↦ rw v (fewer-tree m c ks (put_before ks b t) rest rest y l (omega (arith, none, total-put_before (λ k _. cond (eqb k l) 1 0) ks b t)) (fewer-before ks b t y l none) (omega arith))
    | inr (v, _) ↦ rw v (fewer-tree m c ks (put_under ks p b t) rest (put_under rest p b t) y l (omega (arith, total-under ks p b t l none)) (fewer-under ks p b t y l none) (fewer-under rest p b t y l none))
  ]

  -- where the tree that goes doesn't hold l, l comes into no tree
  pub away-unlink : (f : Forest C) (n y l : ℕ) → IsDistinct f → count_of (tree_of f n) l ≡ 0 → count_of (tree_of f y) l ≡ 0 → count_of (tree_of (unlink f n) y) l ≡ 0
  away-unlink f n y l once off away = omega (arith, away, fewer-without f n y l once, fewer-rising (without f n) n (tree_of f n) y l off)

  pub away-link : (f : Forest C) (p : ℕ) (b : Option ℕ) (n y l : ℕ) → IsDistinct f → count_of (tree_of f n) l ≡ 0 → count_of (tree_of f y) l ≡ 0 → count_of (tree_of (link f p b n) y) l ≡ 0
  away-link f p b n y l once off away = omega (arith, away, fewer-without f n y l once, fewer-under (without f n) p b (tree_of f n) y l off)

  pub away-with_leaf : (f : Forest C) (n : ℕ) (c : C) (y l : ℕ) → eqb n l ≡ false → count_of (tree_of f y) l ≡ 0 → count_of (tree_of (with_leaf f n c) y) l ≡ 0
  away-with_leaf f n c y l other away = omega (arith, away, fewer-join f (Tree n c Nil Nil) y l (rw other refl))

  -- ---- nothing else goes out

  more-without : (f : Forest C) (n y l : ℕ) → count_of (tree_of f n) y ≡ 0 → count_of (tree_of f y) l ≤ count_of (tree_of (without f n) y) l + count_of (tree_of f n) l
  more-without Nil n y l out = omega arith
  more-without (Tree m c ks rest) n y l out = elim (eqb_tells m n) [
    | inl (t, _) ↦ (
        let out' = rw t at out in
        elim (eqb_tells m y) [
          | inl (u, _) ↦ absurd (let out2 = rw u at out' in omega (arith, out2))
          | inr (u, _) ↦
              rw (t, u)
              (omega (
                arith,
                total-join (λ k _. cond (eqb k l) 1 0) (tree_of ks y) (tree_of rest y),
                total-without (λ k _. cond (eqb k l) 1 0) ks y,
              ))
        ])
    | inr (t, _) ↦ (
        let out' = rw t at out in
        let outs = total-join (λ k _. cond (eqb k y) 1 0) (tree_of ks n) (tree_of rest n) in
        let ins = total-join (λ k _. cond (eqb k l) 1 0) (tree_of ks n) (tree_of rest n) in
        elim (eqb_tells m y) [
          | inl (u, _) ↦ rw (t, u) (omega (arith, ins, total-without (λ k _. cond (eqb k l) 1 0) ks n))
          | inr (u, _) ↦
              rw (t, u)
              (omega (
                arith,
                ins,
                more-without ks n y l (omega (arith, out', outs)),
                more-without rest n y l (omega (arith, out', outs)),
                total-join (λ k _. cond (eqb k l) 1 0) (tree_of ks y) (tree_of rest y),
                total-join (λ k _. cond (eqb k l) 1 0) (tree_of (without ks n) y) (tree_of (without rest n) y),
              ))
        ])
  ]

  more-before : (f : Forest C) (b : Option ℕ) (t : Forest C) (y l : ℕ) → count_of t y ≡ 0 → count_of (tree_of f y) l ≤ count_of (tree_of (put_before f b t) y) l
  more-before Nil b t y l out = omega arith
  more-before (Tree m c ks rest) b t y l out = elim (cases_Bool (is_label b m)) [
    | inl v ↦ rw v (after t (Tree m c ks rest) out)
    | inr v ↦ rw v (elim (eqb_tells m y) [
      | inl (u, _) ↦ rw u (omega arith)
      | inr (u, _) ↦
          rw u
          (omega (
            arith,
            more-before rest b t y l out,
            total-join (λ k _. cond (eqb k l) 1 0) (tree_of ks y) (tree_of rest y),
            total-join (λ k _. cond (eqb k l) 1 0) (tree_of ks y) (tree_of (put_before rest b t) y),
          ))
    ])
  ]
    where
      after : (t g : Forest C) → count_of t y ≡ 0 → count_of (tree_of g y) l ≤ count_of (tree_of (join t g) y) l
      after Nil g out = omega arith
      after (Tree j d js more) g out = elim (eqb_tells j y) [
        | inl (u, _) ↦ absurd (let out' = rw u at out in omega (arith, out'))
        | inr (u, _) ↦ (let out' = rw u at out in rw u (omega (arith, after more g (omega (arith, out')), total-join (λ k _. cond (eqb k l) 1 0) (tree_of js y) (tree_of (join more g) y))))
      ]

  more-put : (f : Forest C) (p : ℕ) (b : Option ℕ) (t : Forest C) (l : ℕ) → count_of f l ≤ count_of (put_under f p b t) l
  more-put Nil p b t l = omega arith
  more-put (Tree m c ks rest) p b t l = elim (eqb_tells m p) [
    | inl (v, _) ↦ rw v (omega (arith, total-put_before (λ k _. cond (eqb k l) 1 0) ks b t))
    | inr (v, _) ↦ rw v (omega (arith, more-put ks p b t l, more-put rest p b t l))
  ]

  more-under : (f : Forest C) (p : ℕ) (b : Option ℕ) (t : Forest C) (y l : ℕ) → count_of t y ≡ 0 → count_of (tree_of f y) l ≤ count_of (tree_of (put_under f p b t) y) l
  more-under Nil p b t y l out = omega arith
  more-under (Tree m c ks rest) p b t y l out = elim (eqb_tells m p) [
    | inl (v, _) ↦ elim (eqb_tells m y) [
      | inl (u, _) ↦ rw (v, u) (omega (arith, total-put_before (λ k _. cond (eqb k l) 1 0) ks b t))
      | inr (u, _) ↦
          rw (v, u)
          (omega (
            arith,
            more-before ks b t y l out,
            total-join (λ k _. cond (eqb k l) 1 0) (tree_of ks y) (tree_of rest y),
            total-join (λ k _. cond (eqb k l) 1 0) (tree_of (put_before ks b t) y) (tree_of rest y),
          ))
    ]
    | inr (v, _) ↦ elim (eqb_tells m y) [
      | inl (u, _) ↦ rw (v, u) (omega (arith, more-put ks p b t l))
      | inr (u, _) ↦
          rw (v, u)
          (omega (
            arith,
            more-under ks p b t y l out,
            more-under rest p b t y l out,
            total-join (λ k _. cond (eqb k l) 1 0) (tree_of ks y) (tree_of rest y),
            total-join (λ k _. cond (eqb k l) 1 0) (tree_of (put_under ks p b t) y) (tree_of (put_under rest p b t) y),
          ))
    ]
  ]

  -- l stays within y where the tree of n goes, which holds neither
  pub stays-unlink : (f : Forest C) (o n y l : ℕ) → IsDistinct f → parent_of f n ≡ Some o → count_of (tree_of f n) y ≡ 0 → count_of (tree_of f n) l ≡ 0 → IsWithin f y l → IsWithin (unlink f n) y l
  stays-unlink f o n y l once child out off h =
      let t = tree_n f o n once child in
      let none : count_of (Tree n t.0 t.1 Nil) y ≡ 0 = ap (λ g. count_of g y) (sym t.2) ∙ out in
      let same : tree_of (unlink f n) y ≡ tree_of (without f n) y = ap (λ g. tree_of (put_rising (without f n) n g) y) t.2 ∙ tree_of-rising_other (without f n) n t.0 t.1 y none in
      omega (arith, h, off, ap (λ g. count_of g l) same, more-without f n y l out)

  pub stays-link : (f : Forest C) (p : ℕ) (b : Option ℕ) (n y l : ℕ) → count_of (tree_of f n) y ≡ 0 → count_of (tree_of f n) l ≡ 0 → IsWithin f y l → IsWithin (link f p b n) y l
  stays-link f p b n y l out off h = omega (arith, h, off, more-without f n y l out, more-under (without f n) p b (tree_of f n) y l out)

  -- what the tree of n holds comes to stand within the parent
  pub holds-link : (f : Forest C) (p : ℕ) (b : Option ℕ) (n l : ℕ) → IsDistinct f → CanPut f p b n → IsWithin f n l → IsWithin (link f p b n) p l
  holds-link f p b n l once can h =
      let g = link f p b n in
      let counts = λ (k : ℕ). total-link f p b n once can (λ m _. cond (eqb m k) 1 0) in
      let once' = IsDistinct-link f p b n once can in
      let known : 0 < count_of g p = omega (arith, can.parent, counts p) in
      let same = link_elsewhere f p b n n once can can.node can.apart in
      let x = seen f n once can.node in
      let child : parent_of g n ≡ Some p = parent_of-link f p b n once can n x.0 x.2 ∙ (elim (eqb_tells n n) [ inl (t, _) ↦ rw t refl | inr (_, off) ↦ absurd (off refl) ]) in
      let under = within_child g p once' known n p child (within_self g p once' known) in
      within_trans g p n l once' under (subst (λ t. 0 < count_of t l) (sym same) h)
