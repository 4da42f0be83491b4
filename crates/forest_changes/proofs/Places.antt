-- A tree taken out and put back at its place leaves the forest as it was.
use Rattle.std.proofs.Common.{◌≡◌, ◌⊎◌, ℕ, ◌+◌, ◌<◌, ◌≤◌, true, false, Option, Some, refl, sym, subst, inl, inr, arith, eqb, nat_lt}
use Rattle.std.proofs.lemmas.Bool.Decides.{eqb_tells, nat_tests}
use Rattle.dom_model.specs.Forest.{Forest, Seen, join, tops, count_of, IsDistinct, RisesFrom, times, first_in, after_in, tree_of, without, is_label, put_before, put_under, put_rising}
use Rattle.dom_model.specs.Forest.Forest.{Nil, Tree}
use Rattle.dom_model.proofs.DropTree.{without_absent}
use Rattle.dom_model.proofs.Totals.{put_under_nowhere}
use Rattle.dom_model.proofs.Lists.{is_label_after}
use Rattle.dom_model.proofs.Stands.{true_or_false, Stands, times-tops, count_of-Stands, times-children}
use Rattle.dom_model.proofs.Links.{eqb_refl_true, join-Nil, tree_of_absent}

split_one : (a b : ℕ) → 0 + (a + b) ≡ 1 → ((a ≡ 1) × (b ≡ 0)) ⊎ ((a ≡ 0) × (b ≡ 1))
split_one a b h = grind arith

module _ {C : Type 0} where
  -- ---- a tree put among others, taken out again

  without-put_before : (g : Forest C) (b : Option ℕ) (n : ℕ) (c : C) (ks : Forest C) → count_of g n ≡ 0 → without (put_before g b (Tree n c ks Nil)) n ≡ g
  without-put_before Nil b n c ks none = rw (eqb_refl_true n) refl
  without-put_before (Tree m d js rest) b n c ks none =
      elim (eqb_tells m n) [
        | inl (e, _) ↦ absurd (let none' = rw e at none in omega (arith, none'))
        | inr (e, _) ↦ (let none' = rw e at none in
            elim (true_or_false (is_label b m)) [
              | inl t ↦ rw t (rw (eqb_refl_true n) refl)
              | inr t ↦ rw t (rw e (let one = without_absent js n (omega (arith, none')) in let two = without-put_before rest b n c ks (omega (arith, none')) in cc))
            ])
      ]

  pub without-put_under : (g : Forest C) (p : ℕ) (b : Option ℕ) (n : ℕ) (c : C) (ks : Forest C) → count_of g n ≡ 0 → without (put_under g p b (Tree n c ks Nil)) n ≡ g
  without-put_under Nil p b n c ks none = refl
  without-put_under (Tree m d js rest) p b n c ks none =
      elim (eqb_tells m n) [
        | inl (e, _) ↦ absurd (let none' = rw e at none in omega (arith, none'))
        | inr (e, _) ↦ (let none' = rw e at none in
            elim (true_or_false (eqb m p)) [
              | inl t ↦ rw t (rw e (let one = without-put_before js b n c ks (omega (arith, none')) in let two = without_absent rest n (omega (arith, none')) in cc))
              | inr t ↦ rw t (rw e (let one = without-put_under js p b n c ks (omega (arith, none')) in let two = without-put_under rest p b n c ks (omega (arith, none')) in cc))
            ])
      ]

  tree_of-put_before : (g : Forest C) (b : Option ℕ) (n : ℕ) (c : C) (ks : Forest C) → count_of g n ≡ 0 → tree_of (put_before g b (Tree n c ks Nil)) n ≡ Tree n c ks Nil
  tree_of-put_before Nil b n c ks none = rw (eqb_refl_true n) refl
  tree_of-put_before (Tree m d js rest) b n c ks none =
      elim (eqb_tells m n) [
        | inl (e, _) ↦ absurd (let none' = rw e at none in omega (arith, none'))
        | inr (e, _) ↦ (let none' = rw e at none in
            elim (true_or_false (is_label b m)) [
              | inl t ↦ rw t (rw (eqb_refl_true n) refl)
              | inr t ↦ rw t (rw (e, tree_of_absent js n (omega (arith, none'))) (tree_of-put_before rest b n c ks (omega (arith, none'))))
            ])
      ]

  pub tree_of-put_under : (g : Forest C) (p : ℕ) (b : Option ℕ) (n : ℕ) (c : C) (ks : Forest C) → count_of g n ≡ 0 → count_of g p ≡ 1 → tree_of (put_under g p b (Tree n c ks Nil)) n ≡ Tree n c ks Nil
  tree_of-put_under Nil p b n c ks none once = absurd (omega (arith, once))
  tree_of-put_under (Tree m d js rest) p b n c ks none once =
      elim (eqb_tells m n) [
        | inl (e, _) ↦ absurd (let none' = rw e at none in omega (arith, none'))
        | inr (e, _) ↦ (let none' = rw e at none in
            elim (true_or_false (eqb m p)) [
              | inl t ↦ rw t (rw (e, tree_of-put_before js b n c ks (omega (arith, none')), tree_of_absent rest n (omega (arith, none'))) refl)
              | inr t ↦ (let once' = rw t at once in rw t (
                  elim (split_one (count_of js p) (count_of rest p) once') [
                    | inl (one, zero') ↦ rw (e, tree_of-put_under js p b n c ks (omega (arith, none')) one, put_under_nowhere rest p b (Tree n c ks Nil) zero', tree_of_absent rest n (omega (arith, none'))) refl
                    | inr (zero', one) ↦ rw (e, put_under_nowhere js p b (Tree n c ks Nil) zero', tree_of_absent js n (omega (arith, none'))) (tree_of-put_under rest p b n c ks (omega (arith, none')) one)
                  ]))
            ])
      ]

  pub without-put_rising : (g : Forest C) (n : ℕ) (c : C) (ks : Forest C) → count_of g n ≡ 0 → without (put_rising g n (Tree n c ks Nil)) n ≡ g
  without-put_rising Nil n c ks none = rw (eqb_refl_true n) refl
  without-put_rising (Tree m d js rest) n c ks none =
      elim (eqb_tells m n) [
        | inl (e, _) ↦ absurd (let none' = rw e at none in omega (arith, none'))
        | inr (e, _) ↦ (let none' = rw e at none in
            elim (true_or_false (nat_lt n m)) [
              | inl t ↦ rw t (rw (eqb_refl_true n) refl)
              | inr t ↦ rw t (rw e (let one = without_absent js n (omega (arith, none')) in let two = without-put_rising rest n c ks (omega (arith, none')) in cc))
            ])
      ]

  -- ---- a tree taken out, put back

  pub rising_top : (f : Forest C) (low n : ℕ) → RisesFrom low f → 0 < times (tops f) n → low ≤ n
  rising_top Nil low n rises top = absurd (omega (arith, top))
  rising_top (Tree m c ks rest) low n rises top =
      elim (eqb_tells m n) [
        | inl (_, same) ↦ (let first = rises.0 in let s = same in omega arith)
        | inr (e, _) ↦ (let top' = rw e at top in let first = rises.0 in let up = rising_top rest (m + 1) n rises.1 (omega (arith, top')) in omega arith)
      ]

  pub put_rising_front : (g : Forest C) (n : ℕ) (t : Forest C) → RisesFrom (n + 1) g → put_rising g n t ≡ join t g
  put_rising_front Nil n t rises = sym (join-Nil t)
  put_rising_front (Tree m c ks rest) n t rises =
      let first = rises.0 in let e : nat_lt n m ≡ true = grind (arith, nat_tests) in rw e refl

  pub put_rising_back : (f : Forest C) (low n : ℕ) → IsDistinct f → RisesFrom low f → 0 < times (tops f) n → put_rising (without f n) n (tree_of f n) ≡ f
  put_rising_back Nil low n once rises top = absurd (omega (arith, top))
  put_rising_back (Tree m c ks rest) low n once rises top =
      elim (eqb_tells m n) [
        | inl (e, same) ↦ rw e (let r : RisesFrom (n + 1) rest = subst (λ k. RisesFrom (k + 1) rest) same rises.1 in put_rising_front rest n (Tree m c ks Nil) r)
        | inr (e, _) ↦ (
            let top' : 0 < times (tops rest) n = (let t = rw e at top in omega (arith, t)) in
            let here = times-tops rest n in
            let one : 0 + (count_of ks n + count_of rest n) ≤ 1 = rw e at (once n) in
            let up = rising_top rest (m + 1) n rises.1 top' in
            let lt : nat_lt n m ≡ false = grind (arith, nat_tests) in
            let none : count_of ks n ≡ 0 = omega arith in
            let a = without_absent ks n none in
            let ih = put_rising_back rest (m + 1) n (λ l. omega (arith, once l)) rises.1 top' in
            rw (e, tree_of_absent ks n none) (rw lt (cc)))
      ]

  put_first : (rest : Forest C) (n : ℕ) (c : C) (js : Forest C) → put_before rest (first_in (tops rest)) (Tree n c js Nil) ≡ Tree n c js rest
  put_first Nil n c js = refl
  put_first (Tree k d ks rest) n c js = rw (eqb_refl_true k) refl

  put_before_back : (ks : Forest C) (n : ℕ) → IsDistinct ks → 0 < times (tops ks) n → put_before (without ks n) (after_in (tops ks) n) (tree_of ks n) ≡ ks
  put_before_back Nil n once top = absurd (omega (arith, top))
  put_before_back (Tree m c js rest) n once top =
      elim (eqb_tells m n) [
        | inl (e, _) ↦ rw e (put_first rest m c js)
        | inr (e, _) ↦ (
            let top' : 0 < times (tops rest) n = (let t = rw e at top in omega (arith, t)) in
            let here = times-tops rest n in
            let one : 0 + (count_of js n + count_of rest n) ≤ 1 = rw e at (once n) in
            let none : count_of js n ≡ 0 = omega arith in
            let own : 1 + (count_of js m + count_of rest m) ≤ 1 = rw (eqb_refl_true m) at (once m) in
            let off : times (tops rest) m ≡ 0 = omega (arith, times-tops rest m, own) in
            let lab = is_label_after (tops rest) n m off in
            let a = without_absent js n none in
            let ih = put_before_back rest n (λ l. omega (arith, once l)) top' in
            rw (e, tree_of_absent js n none) (rw lab (cc)))
      ]

  pub put_under_back : (q : Option ℕ) (f : Forest C) (p n : ℕ) (r : Seen C) → IsDistinct f → Stands q f p r → 0 < times r.children n → put_under (without f n) p (after_in r.children n) (tree_of f n) ≡ f
  put_under_back q Nil p n r once h kid = absurd h
  put_under_back q (Tree m c ks rest) p n r once (inl (same, is)) kid =
      let kid' : 0 < times (tops ks) n = rw is at kid in
      let t : eqb m p ≡ true = rw same (eqb_refl_true p) in
      let here = times-tops ks n in
      elim (eqb_tells m n) [
        | inl (e, _) ↦ absurd (let one = rw e at (once n) in omega (arith, one, here, kid'))
        | inr (e, _) ↦ (
            let one : 0 + (count_of ks n + count_of rest n) ≤ 1 = rw e at (once n) in
            let none : count_of rest n ≡ 0 = omega arith in
            let a = without_absent rest n none in
            let ih = put_before_back ks n (λ l. omega (arith, once l)) kid' in
            rw (is, e, tree_of_absent rest n none, join-Nil) (rw t (cc)))
      ]
  put_under_back q (Tree m c ks rest) p n r once (inr (inl h)) kid =
      let pin = count_of-Stands (Some m) ks p r h in
      let ancestor = times-children (Some m) ks p r n h in
      elim (eqb_tells m n) [
        | inl (e, _) ↦ absurd (let one = rw e at (once n) in omega (arith, one, ancestor, kid))
        | inr (e, _) ↦ elim (eqb_tells m p) [
          | inl (t, _) ↦ absurd (let one = rw t at (once p) in omega (arith, one, pin))
          | inr (t, _) ↦ (
              let one : 0 + (count_of ks n + count_of rest n) ≤ 1 = rw e at (once n) in
              let onep : 0 + (count_of ks p + count_of rest p) ≤ 1 = rw t at (once p) in
              let none : count_of rest n ≡ 0 = omega arith in
              let nonep : count_of rest p ≡ 0 = omega arith in
              let a = without_absent rest n none in
              let u = put_under_nowhere rest p (after_in r.children n) (tree_of ks n) nonep in
              let ih = put_under_back (Some m) ks p n r (λ l. omega (arith, once l)) h kid in
              rw (e, tree_of_absent rest n none, join-Nil) (rw t (rw a (cc))))
        ]
      ]
  put_under_back q (Tree m c ks rest) p n r once (inr (inr h)) kid =
      let pin = count_of-Stands q rest p r h in
      let ancestor = times-children q rest p r n h in
      elim (eqb_tells m n) [
        | inl (e, _) ↦ absurd (let one = rw e at (once n) in omega (arith, one, ancestor, kid))
        | inr (e, _) ↦ elim (eqb_tells m p) [
          | inl (t, _) ↦ absurd (let one = rw t at (once p) in omega (arith, one, pin))
          | inr (t, _) ↦ (
              let one : 0 + (count_of ks n + count_of rest n) ≤ 1 = rw e at (once n) in
              let onep : 0 + (count_of ks p + count_of rest p) ≤ 1 = rw t at (once p) in
              let none : count_of ks n ≡ 0 = omega arith in
              let nonep : count_of ks p ≡ 0 = omega arith in
              let a = without_absent ks n none in
              let u = put_under_nowhere ks p (after_in r.children n) (tree_of rest n) nonep in
              let ih = put_under_back q rest p n r (λ l. omega (arith, once l)) h kid in
              rw (e, tree_of_absent ks n none) (rw t (rw a (cc))))
        ]
      ]
