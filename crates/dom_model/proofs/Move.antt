-- A move: a tree made loose can be linked where it could stand.
use Rattle.std.proofs.Common.{◌≡◌, ◌≢◌, ℕ, zero, suc, ◌+◌, ◌<◌, ◌≤◌, cond, Option, Some, None, IfSome, refl, sym, ap, ◌∙◌, inl, inr, arith, eqb, nat_lt}
use Rattle.std.proofs.lemmas.Bool.Decides.{eqb_tells}
use Rattle.dom_model.specs.Forest.{Forest, count_of, IsDistinct, parent_of, tree_of, without, put_rising, unlink, CanPut, IsWithin, depth_of}
use Rattle.dom_model.specs.Forest.Forest.{Nil, Tree}
use Rattle.dom_model.proofs.Totals.{total-unlink}
use Rattle.dom_model.proofs.Stands.{true_or_false}
use Rattle.dom_model.proofs.Links.{seen, parent_of-unlink, gone_n, tree_n, tree_of_absent, parent_count, eqb_refl_true}
use Rattle.dom_model.proofs.Within.{depth_of-parent, within_parent}

module _ {C : Type 0} where
  tree_of-put_rising : (g : Forest C) (n : ℕ) (c : C) (ks : Forest C) → count_of g n ≡ 0 → tree_of (put_rising g n (Tree n c ks Nil)) n ≡ Tree n c ks Nil
  tree_of-put_rising Nil n c ks none = (let t = eqb_refl_true n in rw t refl)
  tree_of-put_rising (Tree m d js rest) n c ks none =
      elim (eqb_tells m n) [
        | inl (t, _) ↦ absurd (let none' = rw t at none in omega (arith, none'))
        | inr (t, _) ↦ (let none' = rw t at none in
            elim (true_or_false (nat_lt n m)) [
              | inl e ↦ (let u = eqb_refl_true n in rw e (rw u refl))
              | inr e ↦ rw e (rw (t, tree_of_absent js n (omega (arith, none'))) (tree_of-put_rising rest n c ks (omega (arith, none'))))
            ])
      ]

  -- a loose tree is what it was
  pub tree_of-unlink : (f : Forest C) (p n : ℕ) → IsDistinct f → parent_of f n ≡ Some p → tree_of (unlink f n) n ≡ tree_of f n
  tree_of-unlink f p n once child =
      let t = tree_n f p n once child in
      let e = tree_of-put_rising (without f n) n t.0 t.1 (gone_n f p n once child) in
      ap (λ g. tree_of (put_rising (without f n) n g) n) t.2 ∙ (e ∙ sym t.2)

  -- what stands below a node stands deeper
  within_depth : (f : Forest C) (n l : ℕ) (fuel : ℕ) → IsDistinct f → 0 < count_of f n → depth_of f l < fuel → IsWithin f n l → depth_of f n ≤ depth_of f l
  within_depth f n l zero once here lt h = absurd (omega arith)
  within_depth f n l (suc fuel) once here lt h =
      elim (eqb_tells n l) [
        | inl (_, is) ↦ (let same = ap (depth_of f) is in omega (arith, same))
        | inr (_, off) ↦ (
            let w = within_parent f n once here l off h in
            let up = depth_of-parent f l w.0 once w.1 in
            let ih = within_depth f n w.0 fuel once here (omega (arith, up, lt)) w.2 in
            omega (arith, up, ih))
      ]

  -- no parent stands below its child
  pub parent_apart : (f : Forest C) (n p : ℕ) → IsDistinct f → parent_of f n ≡ Some p → IsWithin f n p → ⊥
  parent_apart f n p once child h =
      let up = depth_of-parent f n p once child in
      let deep = within_depth f n p (depth_of f p + 1) once (parent_count f n p once child).0 (omega arith) h in
      omega (arith, up, deep)

  -- n can be put under another parent, where it could stand
  pub CanPut-unlink : (f : Forest C) (p n : ℕ) (q : ℕ) (b : Option ℕ) → IsDistinct f → parent_of f n ≡ Some p → 0 < n → 0 < count_of f q → (IsWithin f n q → ⊥) → IfSome b (λ m. (parent_of f m ≡ Some q) × (m ≢ n)) → CanPut (unlink f n) q b n
  CanPut-unlink f p n q b once child inner here off before =
      let counts = λ (l : ℕ). total-unlink (λ m _. cond (eqb m l) 1 0) f n in
      record {
        parent = omega (arith, counts q, here);
        node = omega (arith, counts n, (parent_count f n p once child).0);
        inner = inner;
        loose = loose;
        apart = rw (tree_of-unlink f p n once child) (by_count (count_of (tree_of f n) q) refl);
        before = by_case b before;
      }
    where
      by_count : (k : ℕ) → count_of (tree_of f n) q ≡ k → count_of (tree_of f n) q ≡ 0
      by_count zero e = e
      by_count (suc k) e = absurd (off (omega (arith, e)))

      loose : parent_of (unlink f n) n ≡ None
      loose = (let s = seen f n once (parent_count f n p once child).0 in parent_of-unlink f p n once child n s.0 s.2 ∙ rw (eqb_refl_true n) refl)

      by_case : (o : Option ℕ) → IfSome o (λ m. (parent_of f m ≡ Some q) × (m ≢ n)) → IfSome o (λ m. parent_of (unlink f n) m ≡ Some q)
      by_case None h = tt
      by_case (Some m) h =
          let s = seen f m once (parent_count f m q once h.0).0 in
          let own : s.0.parent ≡ Some q = rw s.2 at h.0 in
          elim (eqb_tells n m) [
            | inl (_, is) ↦ absurd (h.1 (sym is))
            | inr (t, _) ↦ parent_of-unlink f p n once child m s.0 s.2 ∙ rw t own
          ]
