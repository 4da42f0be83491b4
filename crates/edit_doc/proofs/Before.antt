-- Which of two points of the document comes first is told by the document, whatever trees are hidden.
use Rattle.std.proofs.Common.{◌≡◌, ℕ, zero, suc, ◌+◌, ◌<◌, ◌≤◌, Bool, true, false, if◌then◌else◌, List, [], ◌∷◌, Option, Some, None, refl, sym, ap, subst, ◌∙◌, inl, inr, arith, eqb}
use Rattle.std.specs.Prelude.{nat_lt, nat_le, find}
use Rattle.std.proofs.lemmas.Bool.{ltb-true}
use Rattle.std.proofs.lemmas.Bool.Decides.{eqb_tells, nat_tests}
use Rattle.edit_model.specs.DomModel.declared.Content.{Content}
use Rattle.edit_model.specs.DomModel.Forest.{Forest, join, is_label, count_of, tree_of, children_of, IsDistinct, IsWithin}
use Rattle.edit_model.specs.DomModel.Forest.Forest.{Nil, Tree}
use Rattle.edit_model.specs.DomModel.Pruned.{pruned}
use Rattle.edit_model.proofs.DomModel.Links.{tree_of_absent}
use Rattle.edit_model.proofs.DomModel.Pruning.{count_of-pruned, children_of-pruned}
use Rattle.edit_model.proofs.DomModel.Stands.{true_or_false}
use Rattle.edit_model.specs.LiveRange.declared.places.Point.{Point}
use Rattle.edit_model.specs.PointOrder.PointOrder.{is_within, child_toward, is_before_below, is_before_apart, is_before}
use Rattle.edit_doc.proofs.Found.{tree_of-fewer}
use Rattle.edit_doc.proofs.SeenLookUps.{within_detached, index_detached, first_of_two-pruned}

module _ {C : Type 0} where
  counts-join : (f g : Forest C) (l : ℕ) → count_of (join f g) l ≡ count_of f l + count_of g l
  counts-join Nil g l = omega arith
  counts-join (Tree m c ks rest) g l = omega (arith, counts-join rest g l)

  some_tree : (f : Forest C) (m l : ℕ) → IsWithin f m l → 0 < count_of f m
  some_tree f m l h = at (count_of f m) refl
    where
      at : (n : ℕ) → count_of f m ≡ n → 0 < count_of f m
      at zero e = absurd (let t = rw (tree_of_absent f m e) at h in omega (arith, t))
      at (suc n) e = omega (arith, e)

  -- what is above a node that is left is left
  pub above_detached : (k : ℕ → Bool) (f : Forest C) (m l : ℕ) → IsDistinct f → IsWithin f m l → 0 < count_of (pruned k f) l → 0 < count_of (pruned k f) m
  above_detached k Nil m l once within detached = absurd (omega (arith, detached))
  above_detached k (Tree t c ks rest) m l once within detached =
      let le = count_of-pruned k rest l in
      let one : count_of (Tree t c ks Nil) l + count_of rest l ≤ 1 = omega (arith, once l) in
      let once' : IsDistinct rest = λ j. omega (arith, once j) in
      elim (true_or_false (k t)) [
        | inl out ↦ (let left' = rw out at detached in rw out (elim (eqb_tells t m) [
          | inl (e, _) ↦ absurd (let own : 0 < count_of (Tree t c ks Nil) l = rw e at within in omega (arith, one, own, le, left'))
          | inr (e, _) ↦ (
              let both : 0 < count_of (join (tree_of ks m) (tree_of rest m)) l = rw e at within in
              let rest' : IsWithin rest m l = omega (arith, both, counts-join (tree_of ks m) (tree_of rest m) l, tree_of-fewer ks m l, one, le, left') in
              above_detached k rest m l once' rest' left')
        ]))
        | inr in_ ↦ rw in_ (elim (eqb_tells t m) [
          | inl (e, _) ↦ rw e (omega arith)
          | inr (e, _) ↦ (
              let both : 0 < count_of (join (tree_of ks m) (tree_of rest m)) l = rw e at within in
              let left' : 0 < count_of (Tree t c ks Nil) l + count_of (pruned k rest) l = (let u = rw in_ at detached in omega (arith, u)) in
              by_part (count_of (tree_of ks m) l) refl
              (λ h. let there = some_tree ks m l h in rw e (omega (arith, there)))
              (λ none. (
              let rest' : IsWithin rest m l = omega (arith, both, counts-join (tree_of ks m) (tree_of rest m) l, none) in
              let low = tree_of-fewer rest m l in
              let ih = above_detached k rest m l once' rest' (omega (arith, left', one, rest', low)) in
              rw e (omega (arith, ih)))))
        ])
      ]
    where
      by_part : {A : Type 0} (n : ℕ) → count_of (tree_of ks m) l ≡ n → (0 < count_of (tree_of ks m) l → A) → (count_of (tree_of ks m) l ≡ 0 → A) → A
      by_part zero e some none = none e
      by_part (suc n) e some none = some (omega (arith, e))

module _ (k : ℕ → Bool) (f : Forest Content) (once : IsDistinct f) where
  abbrev g : Forest Content
  g = pruned k f

  within_any : (m l : ℕ) → 0 < count_of (pruned k f) l → is_within (pruned k f) m l ≡ is_within f m l
  within_any m l detached = by_count (count_of (pruned k f) m) refl
    where
      no_less : (n : ℕ) → n ≡ 0 → nat_lt 0 n ≡ false
      no_less n e = grind (arith, nat_tests)

      by_test : count_of (pruned k f) m ≡ 0 → (b : Bool) → is_within f m l ≡ b → b ≡ false
      by_test none false e = refl
      by_test none true e = absurd (let h = above_detached k f m l once (ltb-true 0 (count_of (tree_of f m) l) e) detached in omega (arith, h, none))

      by_count : (n : ℕ) → count_of (pruned k f) m ≡ n → is_within (pruned k f) m l ≡ is_within f m l
      by_count (suc n) e = within_detached k f once m l (omega (arith, e))
      by_count zero e =
          ap (λ t. nat_lt 0 (count_of t l)) (tree_of_absent (pruned k f) m e)
          ∙ sym (by_test e (is_within f m l) refl)

  toward : (top l : ℕ) → 0 < count_of (pruned k f) top → 0 < count_of (pruned k f) l → child_toward (pruned k f) top l ≡ child_toward f top l
  toward top l here detached =
      ap (find (λ m. is_within (pruned k f) m l)) (children_of-pruned k f top once here)
      ∙ (λ i. find (λ m. within_any m l detached i) (children_of f top))

  found_does : (test : ℕ → Bool) (xs : List ℕ) (m : ℕ) → find test xs ≡ Some m → test m ≡ true
  found_does test [] m e = absurd (let e' = e in cc)
  found_does test (x ∷ xs) m e = elim (true_or_false (test x)) [
    | inl t ↦ (let e' : Some x ≡ Some m = rw t at e in let same : x ≡ m = (let u = e' in cc) in subst (λ y. test y ≡ true) same t)
    | inr t ↦ found_does test xs m (rw t at e)
  ]

  toward_here : (top l m : ℕ) → 0 < count_of (pruned k f) l → child_toward f top l ≡ Some m → 0 < count_of (pruned k f) m
  toward_here top l m detached e = above_detached k f m l once (ltb-true 0 (count_of (tree_of f m) l) (found_does (λ j. is_within f j l) (children_of f top) m e)) detached

  pub before_detached : (p q : Point) → 0 < count_of (pruned k f) p.label → 0 < count_of (pruned k f) q.label → is_before (pruned k f) p q ≡ is_before f p q
  unfolding is_before
  before_detached p q pl ql =
      ap (λ b. if eqb p.label q.label then nat_lt p.offset q.offset else b)
      (ap (is_before_apart (pruned k f) p q) (toward p.label q.label pl ql) ∙ apart (child_toward f p.label q.label) refl)
    where
      below : (o : Option ℕ) → child_toward f q.label p.label ≡ o → is_before_below (pruned k f) p q o ≡ is_before_below f p q o
      below None e = ap (λ (o : Option ℕ). is_label o p.label) (first_of_two-pruned k f p.label q.label once pl)
      below (Some m) e = ap (λ n. nat_lt n q.offset) (index_detached k f once m (toward_here q.label p.label m pl e))

      apart : (o : Option ℕ) → child_toward f p.label q.label ≡ o → is_before_apart (pruned k f) p q o ≡ is_before_apart f p q o
      apart None e = ap (is_before_below (pruned k f) p q) (toward q.label p.label ql pl) ∙ below (child_toward f q.label p.label) refl
      apart (Some m) e = ap (λ n. nat_le p.offset n) (index_detached k f once m (toward_here p.label q.label m ql e))
