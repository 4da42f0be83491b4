-- A tree is given up leaf by leaf.
use Rattle.std.proofs.Common.{◌≡◌, ◌≢◌, ◌⊎◌, ℕ, ◌+◌, ◌<◌, false, cond, [], Some, None, refl, sym, ap, ◌∙◌, inl, inr, arith, eqb, nat_lt}
use Rattle.std.proofs.lemmas.Bool.Decides.{eqb_tells}
use Rattle.std.specs.Option.{option_map_or, option_and_then}
use Rattle.dom_model.specs.Forest.{Forest, Seen, tops, total, count_of, IsDistinct, parent_of, children_of, first_of, first_in, depth_from, depth_of, tree_of, without, put_rising, unlink, IsWithin}
use Rattle.dom_model.specs.Forest.Forest.{Nil, Tree}
use Rattle.dom_model.proofs.Totals.{total-join, total-without}
use Rattle.dom_model.proofs.Stands.{Stands, true_or_false, seek_Stands, Stands-tree_of, Stands-without}
use Rattle.dom_model.proofs.Within.{depth_absent}
use Rattle.dom_model.proofs.Links.{seen, tree_is, tree_n, gone_n, eqb_refl_true}

module _ {C : Type 0} where
  pub without_absent : (f : Forest C) (n : ℕ) → count_of f n ≡ 0 → without f n ≡ f
  without_absent Nil n none = refl
  without_absent (Tree m c ks rest) n none =
      elim (eqb_tells m n) [
        | inl (t, _) ↦ absurd (let none' = rw t at none in omega (arith, none'))
        | inr (t, _) ↦ (let none' = rw t at none in rw (t, without_absent ks n (omega (arith, none')), without_absent rest n (omega (arith, none'))) refl)
      ]

  without-put_rising : (g : Forest C) (n : ℕ) (c : C) (ks : Forest C) → count_of g n ≡ 0 → without (put_rising g n (Tree n c ks Nil)) n ≡ g
  without-put_rising Nil n c ks none = rw (eqb_refl_true n) refl
  without-put_rising (Tree m d js rest) n c ks none =
      elim (true_or_false (nat_lt n m)) [
        | inl t ↦ rw t (rw (eqb_refl_true n) refl)
        | inr t ↦ rw t (elim (eqb_tells m n) [
          | inl (u, _) ↦ absurd (let none' = rw u at none in omega (arith, none'))
          | inr (u, _) ↦ (let none' = rw u at none in rw (u, without_absent js n (omega (arith, none')), without-put_rising rest n c ks (omega (arith, none'))) refl)
        ])
      ]

  -- a tree that is made loose and then given up is gone from its place
  pub without-unlink : (f : Forest C) (p n : ℕ) → IsDistinct f → parent_of f n ≡ Some p → without (unlink f n) n ≡ without f n
  without-unlink f p n once child =
      let t = tree_n f p n once child in
      ap (λ x. without (put_rising (without f n) n x) n) t.2 ∙ without-put_rising (without f n) n t.0 t.1 (gone_n f p n once child)

  -- a node below top goes with the tree of top
  pub without-below : (f : Forest C) (top n : ℕ) → IsDistinct f → top ≢ n → IsWithin f top n → without (without f n) top ≡ without f top
  without-below Nil top n once off h = absurd (omega (arith, h))
  without-below (Tree m c ks rest) top n once off h =
      let once_n = once n in
      let once_t = once top in
      elim (eqb_tells m top) [
        | inl (t, is) ↦ (
            let h' = rw t at h in
            let other : eqb m n ≡ false = elim (eqb_tells m n) [ inl (_, same) ↦ absurd (off (sym is ∙ same)) | inr (u, _) ↦ u ] in
            let h2 = rw other at h' in
            let once2 = rw other at once_n in
            rw (other, t) (without_absent rest n (omega (arith, h2, once2))))
        | inr (t, _) ↦ (
            let h' = rw t at h in
            let joined = total-join (λ k _. cond (eqb k n) 1 0) (tree_of ks top) (tree_of rest top) in
            let in_ks = total-without (λ k _. cond (eqb k n) 1 0) ks top in
            let in_rest = total-without (λ k _. cond (eqb k n) 1 0) rest top in
            let other : eqb m n ≡ false = elim (eqb_tells m n) [ inl (u, _) ↦ absurd (let o = rw u at once_n in omega (arith, o, h', joined, in_ks, in_rest)) | inr (u, _) ↦ u ] in
            let once2 = rw other at once_n in
            rw (other, t) (elim (either_positive (count_of (tree_of ks top) n) (count_of (tree_of rest top) n) (omega (arith, h', joined))) [
              | inl below ↦ (
                  let none : count_of rest n ≡ 0 = omega (arith, below, in_ks, once2) in
                  rw (without-below ks top n (λ l. omega (arith, once l)) off below, without_absent rest n none) refl)
              | inr after ↦ (
                  let none : count_of ks n ≡ 0 = omega (arith, after, in_rest, once2) in
                  rw (without_absent ks n none, without-below rest top n (λ l. omega (arith, once l)) off after) refl)
            ]))
      ]
    where
      either_positive : (a b : ℕ) → 0 < a + b → (0 < a) ⊎ (0 < b)
      either_positive a b h = grind arith

  -- what is left of the tree of top after a leaf below it is taken out
  pub left-below : (f : Forest C) (top n l : ℕ) → IsDistinct f → top ≢ n → IsWithin f top n → count_of (tree_of (without f n) top) l + count_of (tree_of f n) l ≡ count_of (tree_of f top) l
  left-below f top n l once off h =
      let one = total-without (λ k _. cond (eqb k l) 1 0) (without f n) top in
      let two = total-without (λ k _. cond (eqb k l) 1 0) f n in
      let three = total-without (λ k _. cond (eqb k l) 1 0) f top in
      let same = ap (total (λ k _. cond (eqb k l) 1 0)) (without-below f top n once off h) in
      omega (arith, one, two, three, same)

  -- a node without children is all of its tree
  pub leaf_tree : (f : Forest C) (n : ℕ) → IsDistinct f → 0 < count_of f n → first_of f n ≡ None → (c : C) × (tree_of f n ≡ Tree n c Nil Nil)
  leaf_tree f n once here leaf =
      let t = tree_is f n (omega (arith, here, once n)) in
      let st : Stands None (tree_of f n) n (record { parent = None; content = t.0; children = tops t.1 }) = rw t.2 (inl (refl, refl)) in
      let kids : children_of f n ≡ tops t.1 = elim (Stands-tree_of None None f n n _ (once n) st) [
        | inl (_, o, k, e) ↦ (
            let found = seek_Stands None f n o (once n) k in
            ap (λ s. option_map_or (λ (x : Seen C). x.children) s []) found ∙ sym (ap (λ (x : Seen C). x.children) e))
        | inr (off, _) ↦ absurd (off refl)
      ] in
      (t.0, t.2 ∙ ap (λ ks. Tree n t.0 ks Nil) (empty t.1 (ap first_in (sym kids) ∙ leaf)))
    where
      empty : (ks : Forest C) → first_in (tops ks) ≡ None → ks ≡ Nil
      empty Nil e = refl
      empty (Tree m c js rest) e = absurd (let e' = e in cc)

  -- what is left keeps its parent
  pub parent_of-without : (f : Forest C) (n l : ℕ) → IsDistinct f → 0 < count_of (without f n) l → parent_of (without f n) l ≡ parent_of f l
  parent_of-without f n l once here =
      let distinct : IsDistinct (without f n) = λ k. omega (arith, once k, total-without (λ m _. cond (eqb m k) 1 0) f n) in
      let s = seen (without f n) l distinct here in
      let r = Stands-without None f n l s.0 (once n) s.1 in
      ap (option_and_then (λ (x : Seen C). x.parent)) s.2
      ∙ (ap (λ (x : Seen C). x.parent) r.2 ∙ sym (ap (option_and_then (λ (x : Seen C). x.parent)) (seek_Stands None f l r.0 (once l) r.1)))

  depth_from-without : (d : ℕ) (f : Forest C) (n l : ℕ) → count_of (tree_of f n) l ≡ 0 → depth_from d (without f n) l ≡ depth_from d f l
  depth_from-without d Nil n l out = refl
  depth_from-without d (Tree m c ks rest) n l out =
      elim (eqb_tells m n) [
        | inl (t, _) ↦ (
            let out' = rw t at out in
            elim (eqb_tells m l) [
              | inl (u, _) ↦ absurd (let o = rw u at out' in omega (arith, o))
              | inr (u, _) ↦ (let o = rw u at out' in rw (t, u, depth_absent (d + 1) ks l (omega (arith, o))) refl)
            ])
        | inr (t, _) ↦ (
            let out' = rw t at out in
            let joined = total-join (λ k _. cond (eqb k l) 1 0) (tree_of ks n) (tree_of rest n) in
            rw (t, depth_from-without (d + 1) ks n l (omega (arith, out', joined)), depth_from-without d rest n l (omega (arith, out', joined))) refl)
      ]

  -- and its depth
  pub depth_of-without : (f : Forest C) (n l : ℕ) → count_of (tree_of f n) l ≡ 0 → depth_of (without f n) l ≡ depth_of f l
  depth_of-without f n l out = ap (λ o. option_map_or (λ (e : ℕ). e) o 0) (depth_from-without 0 f n l out)
