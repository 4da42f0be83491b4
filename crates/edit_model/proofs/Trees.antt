-- The tree of a label under each change of a forest that doesn't touch it.
use Rattle.std.proofs.Common.{◌≡◌, ◌≢◌, ◌⊎◌, ℕ, zero, suc, ◌+◌, ◌<◌, true, false, cond, eqb, Option, refl, sym, inl, inr, arith, nat_lt}
use Rattle.std.proofs.lemmas.Bool.Decides.{eqb_tells}
use Rattle.std.proofs.lemmas.Bool.{ne_eqb, eq-eqb, cases_Bool}
use Rattle.point_order.specs.DomModel.Forest.{Forest, join, is_label, count_of, tree_of, without, put_before, put_under, put_rising, with_leaf, IsDistinct, IsWithin}
use Rattle.point_order.specs.DomModel.Forest.Forest.{Nil, Tree}
use Rattle.point_order.specs.DomModel.Revised.{revised}
use Rattle.point_order.proofs.DomModel.Totals.{total-join, total-without, put_under_nowhere}
use Rattle.point_order.proofs.DomModel.Links.{join-Nil, tree_of_absent}
use Rattle.point_order.proofs.DomModel.DropTree.{without_absent}

pub none_or_some : (k : ℕ) → (k ≡ 0) ⊎ (0 < k)
none_or_some zero = inl refl
none_or_some (suc k) = inr (omega arith)

module _ {C : Type 0} where
  -- ---- a tree put in

  put_before_other : (f : Forest C) (b : Option ℕ) (n : ℕ) (d : C) (js : Forest C) (l : ℕ) → count_of (Tree n d js Nil) l ≡ 0 → tree_of (put_before f b (Tree n d js Nil)) l ≡ tree_of f l
  put_before_other Nil b n d js l none = tree_of_absent (Tree n d js Nil) l none
  put_before_other (Tree m c ks rest) b n d js l none = elim (cases_Bool (is_label b m)) [
    | inl t ↦ rw t (first (tree_of (Tree m c ks rest) l))
    | inr t ↦ rw (t, put_before_other rest b n d js l none) refl
  ]
    where
      off : eqb n l ≡ false
      off = ne_eqb n l (λ e. (let t : eqb n l ≡ true = eq-eqb n l e in let none' = rw t at none in omega (arith, none')))

      first : (g : Forest C) → cond (eqb n l) (Tree n d js Nil) (join (tree_of js l) g) ≡ g
      first g = (let none' = rw off at none in rw (off, tree_of_absent js l (omega (arith, none'))) refl)

  put_before_moved : (f : Forest C) (b : Option ℕ) (n : ℕ) (d : C) (js : Forest C) (l : ℕ) → count_of f l ≡ 0 → tree_of (put_before f b (Tree n d js Nil)) l ≡ tree_of (Tree n d js Nil) l
  put_before_moved Nil b n d js l none = refl
  put_before_moved (Tree m c ks rest) b n d js l none = elim (cases_Bool (is_label b m)) [
    | inl t ↦ rw t last
    | inr t ↦ rw (t, off, tree_of_absent ks l (omega (arith, less)), put_before_moved rest b n d js l (omega (arith, less))) refl
  ]
    where
      off : eqb m l ≡ false
      off = ne_eqb m l (λ e. (let t : eqb m l ≡ true = eq-eqb m l e in let none' = rw t at none in omega (arith, none')))

      less : 0 + (count_of ks l + count_of rest l) ≡ 0
      less = (let none' = rw off at none in omega (arith, none'))

      last : cond (eqb n l) (Tree n d js Nil) (join (tree_of js l) (tree_of (Tree m c ks rest) l)) ≡ cond (eqb n l) (Tree n d js Nil) (join (tree_of js l) Nil)
      last = rw (tree_of_absent (Tree m c ks rest) l none) refl

  -- a tree that doesn't have l goes under a node that the tree of l doesn't have
  pub tree_of-put_other : (f : Forest C) (p : ℕ) (b : Option ℕ) (n : ℕ) (d : C) (js : Forest C) (l : ℕ) → count_of (Tree n d js Nil) l ≡ 0 → count_of (tree_of f l) p ≡ 0 → tree_of (put_under f p b (Tree n d js Nil)) l ≡ tree_of f l
  tree_of-put_other Nil p b n d js l none out = refl
  tree_of-put_other (Tree m c ks rest) p b n d js l none out = elim (eqb_tells m p) [
    | inl (t, e) ↦ elim (eqb_tells m l) [
      | inl (u, _) ↦ absurd (let out' = rw (u, t) at out in omega (arith, out'))
      | inr (u, _) ↦ rw (t, u, put_before_other ks b n d js l none) refl
    ]
    | inr (t, _) ↦ elim (eqb_tells m l) [
      | inl (u, _) ↦ (let out' = rw (u, t) at out in rw (t, u, put_under_nowhere ks p b (Tree n d js Nil) (omega (arith, out'))) refl)
      | inr (u, _) ↦ (
          let out' = rw u at out in
          let parts = total-join (λ k _. cond (eqb k p) 1 0) (tree_of ks l) (tree_of rest l) in
          rw (t, u, tree_of-put_other ks p b n d js l none (omega (arith, out', parts)), tree_of-put_other rest p b n d js l none (omega (arith, out', parts))) refl)
    ]
  ]

  -- a tree that has l goes somewhere
  pub tree_of-put_moved : (f : Forest C) (p : ℕ) (b : Option ℕ) (n : ℕ) (d : C) (js : Forest C) (l : ℕ) → count_of f l ≡ 0 → count_of f p ≡ 1 → tree_of (put_under f p b (Tree n d js Nil)) l ≡ tree_of (Tree n d js Nil) l
  tree_of-put_moved Nil p b n d js l none here = absurd (omega (arith, here))
  tree_of-put_moved (Tree m c ks rest) p b n d js l none here = elim (eqb_tells m p) [
    | inl (t, e) ↦ rw (t, off, put_before_moved ks b n d js l (omega (arith, less)), tree_of_absent rest l (omega (arith, less))) (join-Nil (tree_of (Tree n d js Nil) l))
    | inr (t, _) ↦ (let here' = rw t at here in rw t (rw off (elim (one_of (count_of ks p) (count_of rest p) (omega (arith, here'))) [
      | inl (k, r) ↦
          rw (tree_of-put_moved ks p b n d js l (omega (arith, less)) k, put_under_nowhere rest p b (Tree n d js Nil) r, tree_of_absent rest l (omega (arith, less)))
          (join-Nil (tree_of (Tree n d js Nil) l))
      | inr (k, r) ↦
          rw (put_under_nowhere ks p b (Tree n d js Nil) k, tree_of_absent ks l (omega (arith, less)), tree_of-put_moved rest p b n d js l (omega (arith, less)) r) refl
    ])))
  ]
    where
      off : eqb m l ≡ false
      off = ne_eqb m l (λ e. (let t : eqb m l ≡ true = eq-eqb m l e in let none' = rw t at none in omega (arith, none')))

      less : 0 + (count_of ks l + count_of rest l) ≡ 0
      less = (let none' = rw off at none in omega (arith, none'))

      one_of : (a b : ℕ) → a + b ≡ 1 → ((a ≡ 1) × (b ≡ 0)) ⊎ ((a ≡ 0) × (b ≡ 1))
      one_of zero b e = inr (refl, omega (arith, e))
      one_of (suc a) b e = inl (omega (arith, e), omega (arith, e))

  -- ---- a tree taken out

  pub tree_of-without_other : (f : Forest C) (n l : ℕ) → count_of (tree_of f l) n ≡ 0 → count_of (tree_of f n) l ≡ 0 → tree_of (without f n) l ≡ tree_of f l
  tree_of-without_other Nil n l out off = refl
  tree_of-without_other (Tree m c ks rest) n l out off = elim (eqb_tells m n) [
    | inl (t, e) ↦ (
        let off' = rw t at off in
        elim (eqb_tells m l) [
          | inl (u, _) ↦ absurd (let off2 = rw u at off' in omega (arith, off2))
          | inr (u, _) ↦ (let off2 = rw u at off' in rw (t, u, tree_of_absent ks l (omega (arith, off2))) refl)
        ])
    | inr (t, _) ↦ (
        let off' = rw t at off in
        elim (eqb_tells m l) [
          | inl (u, _) ↦ (let out' = rw (u, t) at out in rw (t, u, without_absent ks n (omega (arith, out'))) refl)
          | inr (u, _) ↦ (
              let out' = rw u at out in
              let outs = total-join (λ k _. cond (eqb k n) 1 0) (tree_of ks l) (tree_of rest l) in
              let offs = total-join (λ k _. cond (eqb k l) 1 0) (tree_of ks n) (tree_of rest n) in
              rw (t, u, tree_of-without_other ks n l (omega (arith, out', outs)) (omega (arith, off', offs)), tree_of-without_other rest n l (omega (arith, out', outs)) (omega (arith, off', offs))) refl)
        ])
  ]

  -- ---- a tree within a tree

  -- ---- a tree within a tree

  join_left : (f g : Forest C) (l : ℕ) → count_of g l ≡ 0 → tree_of (join f g) l ≡ tree_of f l
  join_left Nil g l none = tree_of_absent g l none
  join_left (Tree m c ks rest) g l none = rw (join_left rest g l none) refl

  join_right : (f g : Forest C) (l : ℕ) → count_of f l ≡ 0 → tree_of (join f g) l ≡ tree_of g l
  join_right Nil g l none = refl
  join_right (Tree m c ks rest) g l none = elim (eqb_tells m l) [
    | inl (t, _) ↦ absurd (let none' = rw t at none in omega (arith, none'))
    | inr (t, _) ↦ (let none' = rw t at none in rw (t, tree_of_absent ks l (omega (arith, none')), join_right rest g l (omega (arith, none'))) refl)
  ]

  pub tree_of-inside : (f : Forest C) (n l : ℕ) → IsDistinct f → IsWithin f n l → tree_of (tree_of f n) l ≡ tree_of f l
  tree_of-inside Nil n l once h = refl
  tree_of-inside (Tree m c ks rest) n l once h = elim (eqb_tells m n) [
    | inl (t, _) ↦ (
        let h' = rw t at h in
        elim (eqb_tells m l) [
          | inl (u, _) ↦ rw (t, u) refl
          | inr (u, _) ↦ (
              let o = once l in
              let o' = rw u at o in
              let h2 = rw u at h' in
              rw (t, u, tree_of_absent rest l (omega (arith, o', h2))) refl)
        ])
    | inr (t, _) ↦ (
        let h' = rw t at h in
        let parts = total-join (λ k _. cond (eqb k l) 1 0) (tree_of ks n) (tree_of rest n) in
        let in_ks = total-without (λ k _. cond (eqb k l) 1 0) ks n in
        let in_rest = total-without (λ k _. cond (eqb k l) 1 0) rest n in
        let o = once l in
        let once_ks : IsDistinct ks = λ k. (let q = once k in omega (arith, q)) in
        let once_rest : IsDistinct rest = λ k. (let q = once k in omega (arith, q)) in
        let off : eqb m l ≡ false = ne_eqb m l (λ e. (let u : eqb m l ≡ true = eq-eqb m l e in let o' = rw u at o in omega (arith, o', h', parts, in_ks, in_rest))) in
        elim (none_or_some (count_of (tree_of ks n) l)) [
          | inr some ↦
              rw (t, off, join_left (tree_of ks n) (tree_of rest n) l (omega (arith, o, some, in_ks, in_rest)), tree_of-inside ks n l once_ks some, tree_of_absent rest l (omega (arith, o, some, in_ks)))
              (sym (join-Nil (tree_of ks l)))
          | inl none ↦
              rw (t, off, join_right (tree_of ks n) (tree_of rest n) l none, tree_of-inside rest n l once_rest (omega (arith, h', parts, none)), tree_of_absent ks l (omega (arith, o, h', parts, none, in_rest)))
              refl
        ])
  ]

  -- a node within a node within a third is within the third
  pub within_trans : (f : Forest C) (a b l : ℕ) → IsDistinct f → IsWithin f a b → IsWithin f b l → IsWithin f a l
  within_trans f a b l once ab bl =
      let same = tree_of-inside f a b once ab in
      let inner : 0 < count_of (tree_of (tree_of f a) b) l = rw same bl in
      omega (arith, inner, total-without (λ k _. cond (eqb k l) 1 0) (tree_of f a) b)

  -- ---- a tree made loose

  pub tree_of-rising_other : (f : Forest C) (n : ℕ) (d : C) (js : Forest C) (l : ℕ) → count_of (Tree n d js Nil) l ≡ 0 → tree_of (put_rising f n (Tree n d js Nil)) l ≡ tree_of f l
  tree_of-rising_other Nil n d js l none = tree_of_absent (Tree n d js Nil) l none
  tree_of-rising_other (Tree m c ks rest) n d js l none = elim (cases_Bool (nat_lt n m)) [
    | inl t ↦ rw t (first (tree_of (Tree m c ks rest) l))
    | inr t ↦ rw (t, tree_of-rising_other rest n d js l none) refl
  ]
    where
      off : eqb n l ≡ false
      off = ne_eqb n l (λ e. (let t : eqb n l ≡ true = eq-eqb n l e in let none' = rw t at none in omega (arith, none')))

      first : (g : Forest C) → cond (eqb n l) (Tree n d js Nil) (join (tree_of js l) g) ≡ g
      first g = (let none' = rw off at none in rw (off, tree_of_absent js l (omega (arith, none'))) refl)

  pub tree_of-rising_moved : (f : Forest C) (n : ℕ) (d : C) (js : Forest C) (l : ℕ) → count_of f l ≡ 0 → tree_of (put_rising f n (Tree n d js Nil)) l ≡ tree_of (Tree n d js Nil) l
  tree_of-rising_moved Nil n d js l none = refl
  tree_of-rising_moved (Tree m c ks rest) n d js l none = elim (cases_Bool (nat_lt n m)) [
    | inl t ↦ rw t last
    | inr t ↦ rw (t, off, tree_of_absent ks l (omega (arith, less)), tree_of-rising_moved rest n d js l (omega (arith, less))) refl
  ]
    where
      off : eqb m l ≡ false
      off = ne_eqb m l (λ e. (let t : eqb m l ≡ true = eq-eqb m l e in let none' = rw t at none in omega (arith, none')))

      less : 0 + (count_of ks l + count_of rest l) ≡ 0
      less = (let none' = rw off at none in omega (arith, none'))

      last : cond (eqb n l) (Tree n d js Nil) (join (tree_of js l) (tree_of (Tree m c ks rest) l)) ≡ cond (eqb n l) (Tree n d js Nil) (join (tree_of js l) Nil)
      last = rw (tree_of_absent (Tree m c ks rest) l none) refl

  -- ---- other contents, and a new node

  revised_absent : (f : Forest C) (n : ℕ) (g : C → C) → count_of f n ≡ 0 → revised f n g ≡ f
  revised_absent Nil n g none = refl
  revised_absent (Tree m c ks rest) n g none = elim (eqb_tells n m) [
    | inl (_, e) ↦ absurd (let t : eqb m n ≡ true = eq-eqb m n (sym e) in let none' = rw t at none in omega (arith, none'))
    | inr (t, _) ↦ rw (t, revised_absent ks n g (omega (arith, none)), revised_absent rest n g (omega (arith, none))) refl
  ]

  pub tree_of-revised_other : (f : Forest C) (n l : ℕ) (g : C → C) → count_of (tree_of f l) n ≡ 0 → tree_of (revised f n g) l ≡ tree_of f l
  tree_of-revised_other Nil n l g out = refl
  tree_of-revised_other (Tree m c ks rest) n l g out = elim (eqb_tells m l) [
    | inl (u, _) ↦ (
        let out' = rw u at out in
        let off : eqb n m ≡ false = ne_eqb n m (λ e. (let t : eqb m n ≡ true = eq-eqb m n (sym e) in let out2 = rw t at out' in omega (arith, out2))) in
        rw (u, off, revised_absent ks n g (omega (arith, out'))) refl)
    | inr (u, _) ↦ (
        let out' = rw u at out in
        let outs = total-join (λ k _. cond (eqb k n) 1 0) (tree_of ks l) (tree_of rest l) in
        rw (u, tree_of-revised_other ks n l g (omega (arith, out', outs)), tree_of-revised_other rest n l g (omega (arith, out', outs))) refl)
  ]

  pub tree_of-with_leaf_other : (f : Forest C) (n l : ℕ) (c : C) → n ≢ l → tree_of (with_leaf f n c) l ≡ tree_of f l
  tree_of-with_leaf_other f n l c off =
      let t : eqb n l ≡ false = ne_eqb n l off in
      join_left f (Tree n c Nil Nil) l (rw t refl)
