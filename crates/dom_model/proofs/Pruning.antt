-- What stands in a forest without some of its trees.
use Rattle.std.proofs.Common.{◌≡◌, ◌⊎◌, ℕ, zero, suc, ◌+◌, ◌<◌, ◌≤◌, Bool, false, true≢false, cond, [], Option, Some, None, refl, sym, ap, ◌∙◌, inl, inr, arith, eqb}
use Rattle.std.proofs.lemmas.Bool.Decides.{eqb_tells}
use Rattle.std.specs.Option.{option_map_or, option_and_then}
use Rattle.dom_model.specs.Forest.{Forest, Seen, join, count_of, IsDistinct, RisesFrom, seek, parent_of, children_of, either, tree_of}
use Rattle.dom_model.specs.Forest.Forest.{Nil, Tree}
use Rattle.dom_model.specs.Pruned.{pruned, IsWhole}
use Rattle.dom_model.proofs.Stands.{Stands, true_or_false, seek_absent, seek_Stands}
use Rattle.dom_model.proofs.Rising.{RisesFrom-weaken}
use Rattle.dom_model.proofs.Links.{tree_of_absent}

none_of : (n : ℕ) → (0 < n → ⊥) → n ≡ 0
none_of zero h = refl
none_of (suc n) h = absurd (h (omega arith))

module _ {C : Type 0} (k : ℕ → Bool) where
  pub count_of-pruned : (f : Forest C) (l : ℕ) → count_of (pruned k f) l ≤ count_of f l
  count_of-pruned Nil l = omega arith
  count_of-pruned (Tree m c ks rest) l =
      elim (true_or_false (k m)) [
        | inl e ↦ rw e (omega (arith, count_of-pruned rest l))
        | inr e ↦ rw e (omega (arith, count_of-pruned rest l))
      ]

  pub IsDistinct-pruned : (f : Forest C) → IsDistinct f → IsDistinct (pruned k f)
  IsDistinct-pruned f once l = omega (arith, once l, count_of-pruned f l)

  pub RisesFrom-pruned : (f : Forest C) (low : ℕ) → RisesFrom low f → RisesFrom low (pruned k f)
  RisesFrom-pruned Nil low rises = tt
  RisesFrom-pruned (Tree m c ks rest) low rises =
      elim (true_or_false (k m)) [
        | inl e ↦ rw e (RisesFrom-weaken (pruned k rest) (m + 1) low (RisesFrom-pruned rest (m + 1) rises.1) (let first = rises.0 in omega arith))
        | inr e ↦ rw e (rises.0, RisesFrom-pruned rest (m + 1) rises.1)
      ]

  pub tree_of-pruned : (f : Forest C) (n : ℕ) → IsDistinct f → 0 < count_of (pruned k f) n → tree_of (pruned k f) n ≡ tree_of f n
  tree_of-pruned Nil n once here = refl
  tree_of-pruned (Tree m c ks rest) n once here =
      let le = count_of-pruned rest n in
      elim (true_or_false (k m)) [
        | inl t ↦ (let here' = rw t at here in elim (eqb_tells m n) [
          | inl (e, _) ↦ absurd (let one = rw e at (once n) in omega (arith, one, le, here'))
          | inr (e, _) ↦ (
              let one : 0 + (count_of ks n + count_of rest n) ≤ 1 = rw e at (once n) in
              let none : count_of ks n ≡ 0 = omega (arith, one, le, here') in
              rw (t, e, tree_of_absent ks n none) (tree_of-pruned rest n (λ l. omega (arith, once l)) here'))
        ])
        | inr t ↦ rw t (elim (eqb_tells m n) [
          | inl (e, _) ↦ rw e refl
          | inr (e, _) ↦ (
              let one : 0 + (count_of ks n + count_of rest n) ≤ 1 = rw e at (once n) in
              rw e (ap (join (tree_of ks n)) (by_count (count_of (pruned k rest) n) refl (λ h. tree_of-pruned rest n (λ l. omega (arith, once l)) h) (let h = rw t at here in rw e at h) one)))
        ])
      ]
    where
      by_count : (j : ℕ) → count_of (pruned k rest) n ≡ j → (0 < count_of (pruned k rest) n → tree_of (pruned k rest) n ≡ tree_of rest n) → 0 < 0 + (count_of ks n + count_of (pruned k rest) n) → 0 + (count_of ks n + count_of rest n) ≤ 1 → tree_of (pruned k rest) n ≡ tree_of rest n
      by_count zero is ih h one = tree_of_absent (pruned k rest) n is ∙ sym (tree_of_absent rest n (omega (arith, is, h, one)))
      by_count (suc j) is ih h one = ih (omega (arith, is))

  pub seek-pruned : (q : Option ℕ) (f : Forest C) (l : ℕ) → IsDistinct f → 0 < count_of (pruned k f) l → seek q (pruned k f) l ≡ seek q f l
  seek-pruned q Nil l once here = refl
  seek-pruned q (Tree m c ks rest) l once here =
      let le = count_of-pruned rest l in
      elim (true_or_false (k m)) [
        | inl t ↦ (let here' = rw t at here in elim (eqb_tells m l) [
          | inl (e, _) ↦ absurd (let one = rw e at (once l) in omega (arith, one, le, here'))
          | inr (e, _) ↦ (
              let one : 0 + (count_of ks l + count_of rest l) ≤ 1 = rw e at (once l) in
              let none : count_of ks l ≡ 0 = omega (arith, one, le, here') in
              rw (t, e, seek_absent (Some m) ks l none) (seek-pruned q rest l (λ j. omega (arith, once j)) here'))
        ])
        | inr t ↦ rw t (elim (eqb_tells m l) [
          | inl (e, _) ↦ rw e refl
          | inr (e, _) ↦ (
              let one : 0 + (count_of ks l + count_of rest l) ≤ 1 = rw e at (once l) in
              rw e (ap (either (seek (Some m) ks l)) (by_count (count_of (pruned k rest) l) refl (λ h. seek-pruned q rest l (λ j. omega (arith, once j)) h) (let h = rw t at here in rw e at h) one)))
        ])
      ]
    where
      by_count : (j : ℕ) → count_of (pruned k rest) l ≡ j → (0 < count_of (pruned k rest) l → seek q (pruned k rest) l ≡ seek q rest l) → 0 < 0 + (count_of ks l + count_of (pruned k rest) l) → 0 + (count_of ks l + count_of rest l) ≤ 1 → seek q (pruned k rest) l ≡ seek q rest l
      by_count zero is ih h one = seek_absent q (pruned k rest) l is ∙ sym (seek_absent q rest l (omega (arith, is, h, one)))
      by_count (suc j) is ih h one = ih (omega (arith, is))

  pub parent_of-pruned : (f : Forest C) (l : ℕ) → IsDistinct f → 0 < count_of (pruned k f) l → parent_of (pruned k f) l ≡ parent_of f l
  parent_of-pruned f l once here = ap (λ o. option_and_then (λ (s : Seen C). s.parent) o) (seek-pruned None f l once here)

  pub children_of-pruned : (f : Forest C) (l : ℕ) → IsDistinct f → 0 < count_of (pruned k f) l → children_of (pruned k f) l ≡ children_of f l
  children_of-pruned f l once here = ap (λ o. option_map_or (λ (s : Seen C). s.children) o []) (seek-pruned None f l once here)

  -- ---- labels of whole trees

  -- each label of a forest of siblings is such a label where their parent is
  below_same : (q : ℕ) (f : Forest C) → ((l p : ℕ) (s : Seen C) → Stands (Some q) f l s → s.parent ≡ Some p → k l ≡ k p) → (l : ℕ) → 0 < count_of f l → k l ≡ k q
  below_same q Nil same l here = absurd (omega (arith, here))
  below_same q (Tree m c ks rest) same l here =
      let own : k m ≡ k q = same m q _ (inl (refl, refl)) refl in
      elim (eqb_tells m l) [
        | inl (_, is) ↦ ap k (sym is) ∙ own
        | inr (e, _) ↦ (let here' = rw e at here in elim (either_positive (count_of ks l) (count_of rest l) here') [
          | inl below ↦ below_same m ks (λ j p s st. same j p s (inr (inl st))) l below ∙ own
          | inr after ↦ below_same q rest (λ j p s st. same j p s (inr (inr st))) l after
        ])
      ]
    where
      either_positive : (a b : ℕ) → 0 < 0 + (a + b) → (0 < a) ⊎ (0 < b)
      either_positive a b h = grind arith

  -- what stays of a list of whole trees
  sides : (f : Forest C) → ((l p : ℕ) (s : Seen C) → Stands None f l s → s.parent ≡ Some p → k l ≡ k p) → (l : ℕ) → (0 < count_of (pruned k f) l → k l ≡ false) × (k l ≡ false → count_of (pruned k f) l ≡ count_of f l)
  sides Nil same l = (λ h. absurd (omega (arith, h)), λ _. refl)
  sides (Tree m c ks rest) same l =
      let ih = sides rest (λ j p s st. same j p s (inr (inr st))) l in
      elim (true_or_false (k m)) [
        | inl t ↦ rw t (ih.0, λ out. (let none = none_of (cond (eqb m l) 1 0 + count_of ks l) (λ some. true≢false (sym t ∙ (sym (own some) ∙ out))) in let e = ih.1 out in omega (arith, none, e)))
        | inr t ↦ rw t (λ h. elim (either_positive (cond (eqb m l) 1 0 + count_of ks l) (count_of (pruned k rest) l) (omega (arith, h))) [ inl some ↦ own some ∙ t | inr after ↦ ih.0 after ], λ out. (let e = ih.1 out in omega (arith, e)))
      ]
    where
      either_positive : (a b : ℕ) → 0 < a + b → (0 < a) ⊎ (0 < b)
      either_positive a b h = grind arith

      own : 0 < cond (eqb m l) 1 0 + count_of ks l → k l ≡ k m
      own some = elim (eqb_tells m l) [
        | inl (_, is) ↦ ap k (sym is)
        | inr (e, _) ↦ (let some' = rw e at some in below_same m ks (λ j p s st. same j p s (inr (inl st))) l (omega (arith, some')))
      ]

  module _ (f : Forest C) (once : IsDistinct f) (whole : IsWhole k f) where
    standing : (l p : ℕ) (s : Seen C) → Stands None f l s → s.parent ≡ Some p → k l ≡ k p
    standing l p s st up = whole.same l p (ap (option_and_then (λ (o : Seen C). o.parent)) (seek_Stands None f l s (once l) st) ∙ up)

    pub whole_out : (l : ℕ) → 0 < count_of (pruned k f) l → k l ≡ false
    whole_out l = (sides f standing l).0

    pub whole_stays : (l : ℕ) → k l ≡ false → count_of (pruned k f) l ≡ count_of f l
    whole_stays l = (sides f standing l).1
