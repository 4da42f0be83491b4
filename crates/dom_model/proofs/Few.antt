-- Distinct labels below a number are no more than that number.
use Rattle.std.proofs.Common.{◌≡◌, ℕ, zero, suc, ◌+◌, ◌<◌, ◌≤◌, cond, refl, inl, inr, arith, eqb, nat_lt}
use Rattle.std.proofs.lemmas.Bool.Decides.{eqb_tells, nat_tests}
use Rattle.dom_model.specs.Forest.{Forest, total, count_of, IsDistinct}
use Rattle.dom_model.specs.Forest.Forest.{Nil, Tree}

module _ {C : Type 0} where
  split_one_more : (n : ℕ) (f : Forest C) → total (λ m _. cond (nat_lt m (suc n)) 1 0) f ≡ total (λ m _. cond (nat_lt m n) 1 0) f + count_of f n
  split_one_more n Nil = refl
  split_one_more n (Tree m c ks rest) =
      let one : cond (nat_lt m (suc n)) 1 0 ≡ cond (nat_lt m n) 1 0 + cond (eqb m n) 1 0 = grind (arith, nat_tests) in
      omega (arith, one, split_one_more n ks, split_one_more n rest)

  none_low : (f : Forest C) → total (λ m _. cond (nat_lt m 0) 1 0) f ≡ 0
  none_low Nil = refl
  none_low (Tree m c ks rest) =
      let none : cond (nat_lt m 0) 1 0 ≡ zero = grind (arith, nat_tests) in
      omega (arith, none, none_low ks, none_low rest)

  few_below : (f : Forest C) → IsDistinct f → (n : ℕ) → total (λ m _. cond (nat_lt m n) 1 0) f ≤ n
  few_below f once zero = omega (arith, none_low f)
  few_below f once (suc n) = omega (arith, split_one_more n f, few_below f once n, once n)

  all_below : (f : Forest C) (n : ℕ) → ((l : ℕ) → 0 < count_of f l → l < n) → total (λ _ _. 1) f ≡ total (λ m _. cond (nat_lt m n) 1 0) f
  all_below Nil n low = refl
  all_below (Tree m c ks rest) n low =
      let own : 0 < count_of (Tree m c ks rest) m = elim (eqb_tells m m) [ inl (t, _) ↦ rw t (omega arith) | inr (_, off) ↦ absurd (off refl) ] in
      let lt = low m own in
      let one : cond (nat_lt m n) 1 0 ≡ suc zero = grind (arith, nat_tests) in
      omega (arith, one, all_below ks n (λ l h. low l (omega (arith, h))), all_below rest n (λ l h. low l (omega (arith, h))))

  pub total-few : (f : Forest C) (n : ℕ) → IsDistinct f → ((l : ℕ) → 0 < count_of f l → l < n) → total (λ _ _. 1) f ≤ n
  total-few f n once low = omega (arith, all_below f n low, few_below f once n)

  -- where a label is there, there are nodes
  pub some_nodes : (f : Forest C) (l : ℕ) → 0 < count_of f l → 0 < total (λ (_ : ℕ) (_ : C). 1) f
  some_nodes Nil l h = absurd (omega (arith, h))
  some_nodes (Tree m c ks rest) l h = omega arith
