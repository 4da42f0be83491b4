-- A walk in tree order by first children, next siblings and parents.
use Rattle.std.proofs.Common.{◌≡◌, ℕ, ◌+◌, ◌<◌, ◌≤◌, [], Some, None, refl, sym, ap, subst, ◌∙◌, inl, inr, arith, eqb, nat_lt}
use Rattle.std.proofs.lemmas.Bool.Decides.{eqb_tells, nat_tests}
use Rattle.std.specs.Option.{option_map_or, option_and_then}
use Rattle.dom_model.specs.Forest.{Forest, Seen, tops, total, count_of, IsDistinct, parent_of, content_of, first_of, next_of, first_in, times, tree_of, RisesFrom}
use Rattle.dom_model.specs.Forest.Forest.{Nil, Tree}
use Rattle.dom_model.specs.TreeOrder.{total_from, total_after}
use Rattle.dom_model.proofs.Stands.{true_or_false, parent_stands}
use Rattle.dom_model.proofs.Links.{seen, child_of_parent, parent_count}
use Rattle.dom_model.proofs.Parts.{Part, Part-kids, Part-rest, Part-sibling, onward_Part, total_from_Part, total_after_Part, at_label}

module _ {C : Type 0} (f : Forest C) (once : IsDistinct f) where
  begins : (g : Forest C) (k : ℕ) → first_in (tops g) ≡ Some k → (c : C) × (ks : Forest C) × (rest : Forest C) × (g ≡ Tree k c ks rest)
  begins Nil k e = absurd (let e' = e in cc)
  begins (Tree m c ks rest) k e = (c, ks, rest, (let is : m ≡ k = (let e' = e in cc) in ap (λ j. Tree j c ks rest) is))

  empty : (g : Forest C) → first_in (tops g) ≡ None → g ≡ Nil
  empty Nil e = refl
  empty (Tree m c ks rest) e = absurd (let e' = e in cc)

  from_first : (w : ℕ → C → ℕ) (g : Forest C) (n k : ℕ) → Part w f g n → first_in (tops g) ≡ Some k → total_from w f k ≡ total w g + n
  from_first w g n k p e =
      let b = begins g k e in
      let p' = subst (λ x. Part w f x n) b.3 p in
      total_from_Part w f k b.0 b.1 b.2 n (once k) p' ∙ ap (λ x. total w x + n) (sym b.3)

  -- from a node the walk goes to its first child
  pub total_from-first : (w : ℕ → C → ℕ) (l k : ℕ) (c : C) → 0 < count_of f l → content_of f l ≡ Some c → first_of f l ≡ Some k → total_from w f l ≡ w l c + total_from w f k
  total_from-first w l k c h content first =
      let a = at_label f once l h in
      let p = a.parts w in
      let same : a.content ≡ c = (let t = sym a.content_is ∙ content in cc) in
      let e : first_in (tops a.kids) ≡ Some k = ap first_in (sym a.children_is) ∙ first in
      let one = total_from_Part w f l a.content a.kids a.rest p.0 (once l) p.1 in
      let two = from_first w a.kids (total w a.rest + p.0) k (Part-kids w f l a.content a.kids a.rest p.0 k e p.1) e in
      omega (arith, one, two, ap (w l) same)

  -- or, where it has none, to what comes after it
  pub total_from-leaf : (w : ℕ → C → ℕ) (l : ℕ) (c : C) → 0 < count_of f l → content_of f l ≡ Some c → first_of f l ≡ None → total_from w f l ≡ w l c + total_after w f l
  total_from-leaf w l c h content first =
      let a = at_label f once l h in
      let p = a.parts w in
      let same : a.content ≡ c = (let t = sym a.content_is ∙ content in cc) in
      let none : a.kids ≡ Nil = empty a.kids (ap first_in (sym a.children_is) ∙ first) in
      let one = total_from_Part w f l a.content a.kids a.rest p.0 (once l) p.1 in
      let two = total_after_Part w f l a.content a.kids a.rest p.0 (once l) p.1 in
      omega (arith, one, two, ap (w l) same, ap (total w) none)

  -- after a node comes its next sibling
  pub total_after-next : (w : ℕ → C → ℕ) (l k p : ℕ) → parent_of f l ≡ Some p → next_of f l ≡ Some k → total_after w f l ≡ total_from w f k
  total_after-next w l k p child next =
      let a = at_label f once l (parent_count f l p once child).0 in
      let q = a.parts w in
      let e : first_in (tops a.rest) ≡ Some k = sym (a.next_is p child) ∙ next in
      let one = total_after_Part w f l a.content a.kids a.rest q.0 (once l) q.1 in
      let two = from_first w a.rest q.0 k (Part-rest w f l a.content a.kids a.rest q.0 k e q.1) e in
      omega (arith, one, two)

  -- or, where it is the last one, what comes after its parent
  pub total_after-last : (w : ℕ → C → ℕ) (l p : ℕ) → parent_of f l ≡ Some p → next_of f l ≡ None → total_after w f l ≡ total_after w f p
  total_after-last w l p child next =
      let a = at_label f once l (parent_count f l p once child).0 in
      let none : a.rest ≡ Nil = empty a.rest (sym (a.next_is p child) ∙ next) in
      let b = at_label f once p (parent_count f l p once child).1 in
      let q = b.parts w in
      let r = child_of_parent f l p once child in
      let kids : r.0.children ≡ tops b.kids = ap (λ o. option_map_or (λ (x : Seen C). x.children) o []) (sym r.2) ∙ b.children_is in
      let some : 0 < times (tops b.kids) l = subst (λ xs. 0 < times xs l) kids r.3 in
      let lead = by_kids b.kids some in
      let under = Part-kids w f p b.content b.kids b.rest q.0 lead.0 lead.1 q.1 in
      let own = Part-sibling w f b.kids (total w b.rest + q.0) l under some in
      let same : own.2 ≡ a.rest = (let t : Tree l own.0 own.1 own.2 ≡ Tree l a.content a.kids a.rest = sym (onward_Part w f l own.0 own.1 own.2 (total w b.rest + q.0) (once l) own.3) ∙ a.is in cc) in
      let one = total_after_Part w f l own.0 own.1 own.2 (total w b.rest + q.0) (once l) own.3 in
      let two = total_after_Part w f p b.content b.kids b.rest q.0 (once p) q.1 in
      omega (arith, one, two, ap (total w) (same ∙ none))
    where
      by_kids : (g : Forest C) → 0 < times (tops g) l → (k : ℕ) × (first_in (tops g) ≡ Some k)
      by_kids Nil h = absurd (omega (arith, h))
      by_kids (Tree m c ks rest) h = (m, refl)

-- ---- the document

module _ {C : Type 0} where
  times-rising : (f : Forest C) (low l : ℕ) → RisesFrom low f → l < low → times (tops f) l ≡ 0
  times-rising Nil low l rises lt = refl
  times-rising (Tree m c ks rest) low l rises lt =
      let first = rises.0 in
      let later = times-rising rest (m + 1) l rises.1 (omega arith) in
      grind (arith, nat_tests)

  -- a root with label 0 is the first tree
  pub document_first : (f : Forest C) → IsDistinct f → RisesFrom 0 f → 0 < count_of f 0 → parent_of f 0 ≡ None → (c : C) × (ks : Forest C) × (rest : Forest C) × (f ≡ Tree 0 c ks rest)
  document_first Nil once rises h root = absurd (omega (arith, h))
  document_first (Tree m c ks rest) once rises h root =
      let s = seen (Tree m c ks rest) 0 once h in
      let own : s.0.parent ≡ None = ap (option_and_then (λ (x : Seen C). x.parent)) (sym s.2) ∙ root in
      elim (eqb_tells m 0) [
        | inl (_, is) ↦ (c, ks, rest, ap (λ k. Tree k c ks rest) is)
        | inr (t, off) ↦ absurd (elim (parent_stands None (Tree m c ks rest) 0 s.0 s.1) [
          | inl (_, some) ↦ (
              let some' = rw t at some in
              let none = times-rising rest (m + 1) 0 rises.1 (omega arith) in
              omega (arith, some', none))
          | inr (p, _, at, _, _) ↦ (let u : None ≡ Some p = sym own ∙ at in cc)
        ])
      ]

  -- what the document weighs is what comes from it on, without what comes after it
  pub total-document : (w : ℕ → C → ℕ) (c : C) (ks rest : Forest C) → total_from w (Tree 0 c ks rest) 0 ≡ total w (tree_of (Tree 0 c ks rest) 0) + total_after w (Tree 0 c ks rest) 0
  total-document w c ks rest = omega arith

module _ {C : Type 0} where
  pub total_from_le : (w : ℕ → C → ℕ) (f : Forest C) (l : ℕ) → total_from w f l ≤ total w f
  total_from_le w Nil l = omega arith
  total_from_le w (Tree m c ks rest) l =
      elim (true_or_false (eqb m l)) [
        | inl t ↦ rw t (omega arith)
        | inr t ↦ rw t (elim (true_or_false (nat_lt 0 (count_of ks l))) [
          | inl u ↦ rw u (omega (arith, total_from_le w ks l))
          | inr u ↦ rw u (omega (arith, total_from_le w rest l))
        ])
      ]

  -- what comes after the first tree doesn't have its nodes
  pub total_after_document : (f : Forest C) (c : C) (ks rest : Forest C) → f ≡ Tree 0 c ks rest → (w : ℕ → C → ℕ) → total_from w f 0 ≡ total w (tree_of f 0) + total_after w f 0
  total_after_document f c ks rest is w = subst (λ g. total_from w g 0 ≡ total w (tree_of g 0) + total_after w g 0) (sym is) (total-document w c ks rest)

  pub total_from_whole : (f : Forest C) (c : C) (ks rest : Forest C) → f ≡ Tree 0 c ks rest → (w : ℕ → C → ℕ) → total_from w f 0 ≡ total w f
  total_from_whole f c ks rest is w = subst (λ g. total_from w g 0 ≡ total w g) (sym is) refl
