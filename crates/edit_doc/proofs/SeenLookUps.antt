-- What is looked up of a node that is left of a forest from which trees are pruned.
use Rattle.std.proofs.Common.{◌≡◌, ℕ, zero, suc, ◌+◌, ◌<◌, ◌≤◌, Bool, false, cond, List, [], Option, Some, None, refl, sym, ap, ◌∙◌, inl, inr, arith, nat_lt}
use Rattle.std.specs.Prelude.{◌&&◌}
use Rattle.std.specs.Option.{option_map, option_map_or, option_and_then}
use Rattle.std.proofs.lemmas.Bool.Decides.{eqb_tells, nat_tests}
use Rattle.edit_model.specs.DomModel.declared.Content.{Content}
use Rattle.edit_model.specs.DomModel.Contents.{is_element, length_in, length_of}
use Rattle.edit_model.specs.DomModel.Editing.{offered, host_from, is_editable}
use Rattle.edit_model.specs.DomModel.Forest.{Forest, Seen, either, is_label, count_of, parent_of, first_of, last_of, prev_of, next_of, first_in, last_in, before_in, after_in, children_of, content_of, preorder, IsDistinct}
use Rattle.edit_model.specs.DomModel.Forest.Forest.{Nil, Tree}
use Rattle.edit_model.specs.DomModel.Places.{place_in, first_among, index_of, first_of_two}
use Rattle.edit_model.specs.DomModel.Pruned.{pruned}
use Rattle.edit_model.proofs.DomModel.Links.{parent_count}
use Rattle.edit_model.proofs.DomModel.Pruning.{count_of-pruned, IsDistinct-pruned, tree_of-pruned, seek-pruned, parent_of-pruned, children_of-pruned}
use Rattle.edit_model.proofs.DomModel.Stands.{true_or_false}
use Rattle.edit_model.specs.PointOrder.PointOrder.{is_within}

-- ---- hosts

host_absent : (u : Bool) (above : Option ℕ) (f : Forest Content) (l : ℕ) → count_of f l ≡ 0 → host_from u above f l ≡ None
host_absent u above Nil l none = refl
host_absent u above (Tree m c ks rest) l none = elim (eqb_tells m l) [
  | inl (e, _) ↦ absurd (let none' = rw e at none in omega (arith, none'))
  | inr (e, _) ↦ (
      let none' : 0 + (count_of ks l + count_of rest l) ≡ 0 = rw e at none in
      rw (e, host_absent (is_element c) (offered m c u above) ks l (omega (arith, none'))) (host_absent u above rest l (omega (arith, none'))))
]

-- ---- the first of two nodes

first_absent : {C : Type 0} → (f : Forest C) (a b : ℕ) → count_of f a ≡ 0 → first_of_two f a b ≡ None
first_absent Nil a b none = refl
first_absent (Tree m c ks rest) a b none =
    let test : nat_lt 0 (count_of (Tree m c ks Nil) a) ≡ false = no_less (count_of (Tree m c ks Nil) a) (omega (arith, none)) in
    rw test (first_absent rest a b (omega (arith, none)))
  where
    no_less : (n : ℕ) → n ≡ 0 → nat_lt 0 n ≡ false
    no_less n e = grind (arith, nat_tests)

module _ (k : ℕ → Bool) where
  pub host_from-pruned : (u : Bool) (above : Option ℕ) (f : Forest Content) (l : ℕ) → IsDistinct f → 0 < count_of (pruned k f) l → host_from u above (pruned k f) l ≡ host_from u above f l
  host_from-pruned u above Nil l once here = refl
  host_from-pruned u above (Tree m c ks rest) l once here =
      let le = count_of-pruned k rest l in
      elim (true_or_false (k m)) [
        | inl t ↦ (let here' = rw t at here in elim (eqb_tells m l) [
          | inl (e, _) ↦ absurd (let one = rw e at (once l) in omega (arith, one, le, here'))
          | inr (e, _) ↦ (
              let one : 0 + (count_of ks l + count_of rest l) ≤ 1 = rw e at (once l) in
              let none : count_of ks l ≡ 0 = omega (arith, one, le, here') in
              rw (t, e, host_absent (is_element c) (offered m c u above) ks l none) (host_from-pruned u above rest l (λ j. omega (arith, once j)) here'))
        ])
        | inr t ↦ rw t (elim (eqb_tells m l) [
          | inl (e, _) ↦ rw e refl
          | inr (e, _) ↦ (
              let one : 0 + (count_of ks l + count_of rest l) ≤ 1 = rw e at (once l) in
              rw e (ap (either (host_from (is_element c) (offered m c u above) ks l)) (by_count (count_of (pruned k rest) l) refl (λ h. host_from-pruned u above rest l (λ j. omega (arith, once j)) h) (let h = rw t at here in rw e at h) one)))
        ])
      ]
    where
      by_count : (j : ℕ) → count_of (pruned k rest) l ≡ j → (0 < count_of (pruned k rest) l → host_from u above (pruned k rest) l ≡ host_from u above rest l) → 0 < 0 + (count_of ks l + count_of (pruned k rest) l) → 0 + (count_of ks l + count_of rest l) ≤ 1 → host_from u above (pruned k rest) l ≡ host_from u above rest l
      by_count zero is ih h one = host_absent u above (pruned k rest) l is ∙ sym (host_absent u above rest l (omega (arith, is, h, one)))
      by_count (suc j) is ih h one = ih (omega (arith, is))

module _ {C : Type 0} (k : ℕ → Bool) where
  -- the first of two nodes, one of which is left
  pub first_of_two-pruned : (f : Forest C) (a b : ℕ) → IsDistinct f → 0 < count_of (pruned k f) a → first_of_two (pruned k f) a b ≡ first_of_two f a b
  first_of_two-pruned Nil a b once here = refl
  first_of_two-pruned (Tree m c ks rest) a b once here =
      let le = count_of-pruned k rest a in
      let own : ℕ = count_of (Tree m c ks Nil) a in
      let one : own + count_of rest a ≤ 1 = omega (arith, once a) in
      elim (true_or_false (k m)) [
        | inl t ↦ (
            let here' = rw t at here in
            let none : nat_lt 0 (count_of (Tree m c ks Nil) a) ≡ false = no_less (count_of (Tree m c ks Nil) a) (omega (arith, one, le, here')) in
            rw (t, none) (first_of_two-pruned rest a b (λ j. omega (arith, once j)) here'))
        | inr t ↦ rw t (
            ap (λ (o : Option ℕ). cond (nat_lt 0 (count_of (Tree m c ks Nil) a) && nat_lt 0 (count_of (Tree m c ks Nil) b)) (first_among (preorder (Tree m c ks Nil)) a b) o)
            (by_count (count_of (pruned k rest) a) refl (λ h. first_of_two-pruned rest a b (λ j. omega (arith, once j)) h) (let h = rw t at here in omega (arith, h)) one))
      ]
    where
      no_less : (n : ℕ) → n ≡ 0 → nat_lt 0 n ≡ false
      no_less n e = grind (arith, nat_tests)

      by_count : (j : ℕ) → count_of (pruned k rest) a ≡ j → (0 < count_of (pruned k rest) a → first_of_two (pruned k rest) a b ≡ first_of_two rest a b) → 0 < count_of (Tree m c ks Nil) a + count_of (pruned k rest) a → count_of (Tree m c ks Nil) a + count_of rest a ≤ 1 → first_of_two (pruned k rest) a b ≡ first_of_two rest a b
      by_count zero is ih h one = first_absent (pruned k rest) a b is ∙ sym (first_absent rest a b (omega (arith, is, h, one)))
      by_count (suc j) is ih h one = ih (omega (arith, is))

-- ---- the links and the content of a node

module _ (k : ℕ → Bool) (f : Forest Content) (once : IsDistinct f) where
  once_detached : IsDistinct (pruned k f)
  once_detached = IsDistinct-pruned k f once

  pub first_detached : (l : ℕ) → 0 < count_of (pruned k f) l → first_of (pruned k f) l ≡ first_of f l
  first_detached l here = ap first_in (children_of-pruned k f l once here)

  pub last_detached : (l : ℕ) → 0 < count_of (pruned k f) l → last_of (pruned k f) l ≡ last_of f l
  last_detached l here = ap last_in (children_of-pruned k f l once here)

  -- what is told of the place among siblings by the children of the parent
  by_parent : {A : Type 0} → (look : List ℕ → A) (out : A) (l : ℕ) → 0 < count_of (pruned k f) l →
      option_map_or (λ p. look (children_of (pruned k f) p)) (parent_of (pruned k f) l) out ≡ option_map_or (λ p. look (children_of f p)) (parent_of f l) out
  by_parent look out l here = at (parent_of (pruned k f) l) refl ∙ ap (λ o. option_map_or (λ p. look (children_of f p)) o out) (parent_of-pruned k f l once here)
    where
      at : (o : Option ℕ) → parent_of (pruned k f) l ≡ o → option_map_or (λ p. look (children_of (pruned k f) p)) o out ≡ option_map_or (λ p. look (children_of f p)) o out
      at None e = refl
      at (Some p) e = ap look (children_of-pruned k f p once (parent_count (pruned k f) l p once_detached e).1)

  pub index_detached : (l : ℕ) → 0 < count_of (pruned k f) l → index_of (pruned k f) l ≡ index_of f l
  index_detached l here = by_parent (λ ls. place_in ls l) 0 l here

  prev_by : (o : Option ℕ) (g : ℕ → Option ℕ) → option_and_then g o ≡ option_map_or g o None
  prev_by None g = refl
  prev_by (Some p) g = refl

  pub prev_detached : (l : ℕ) → 0 < count_of (pruned k f) l → prev_of (pruned k f) l ≡ prev_of f l
  prev_detached l here =
      prev_by (parent_of (pruned k f) l) (λ p. before_in (children_of (pruned k f) p) l) ∙ (by_parent (λ ls. before_in ls l) None l here
      ∙ sym (prev_by (parent_of f l) (λ p. before_in (children_of f p) l)))

  pub next_detached : (l : ℕ) → 0 < count_of (pruned k f) l → next_of (pruned k f) l ≡ next_of f l
  next_detached l here =
      prev_by (parent_of (pruned k f) l) (λ p. after_in (children_of (pruned k f) p) l) ∙ (by_parent (λ ls. after_in ls l) None l here
      ∙ sym (prev_by (parent_of f l) (λ p. after_in (children_of f p) l)))

  pub content_detached : (l : ℕ) → 0 < count_of (pruned k f) l → content_of (pruned k f) l ≡ content_of f l
  content_detached l here = ap (λ (o : Option (Seen Content)). option_map (λ s. s.content) o) (seek-pruned k None f l once here)

  pub length_detached : (l : ℕ) → 0 < count_of (pruned k f) l → length_of (pruned k f) l ≡ length_of f l
  length_detached l here = ap (λ (o : Option (Seen Content)). option_map_or (λ c. length_in c (option_map_or (λ s. s.children) o [])) (option_map (λ s. s.content) o) 0) (seek-pruned k None f l once here)

  pub editable_detached : (h l : ℕ) → 0 < count_of (pruned k f) l → is_editable (pruned k f) h l ≡ is_editable f h l
  editable_detached h l here = ap (λ o. is_label o h) (host_from-pruned k false None f l once here)

  pub within_detached : (n l : ℕ) → 0 < count_of (pruned k f) n → is_within (pruned k f) n l ≡ is_within f n l
  within_detached n l here = ap (λ t. nat_lt 0 (count_of t l)) (tree_of-pruned k f n once here)
