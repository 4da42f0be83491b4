-- The tree of an inner node with its later siblings: what its first child and its next sibling lead to.
use Rattle.std.proofs.Common.{◌≡◌, ℕ, ◌<◌, List, [], ◌∷◌, Option, Some, refl, sym, ap, ◌∙◌, inl, inr, true, arith, eqb}
use Rattle.std.proofs.lemmas.Bool.Decides.{eqb_tells, nat_tests}
use Rattle.node_arena.specs.DomModel.Forest.{Forest, tops, count_of, content_of, parent_of, first_of, next_of, first_in, after_in, times, IsDistinct}
use Rattle.node_arena.specs.DomModel.Forest.Forest.{Nil, Tree}
use Rattle.node_arena.specs.DomModel.Places.{onward}
use Rattle.node_arena.proofs.DomModel.Links.{seen, parent_of_child, child_of_parent}
use Rattle.node_arena.proofs.DomModel.Parts.{At, at_label}
use Rattle.node_paths.specs.Onward.{onward_at}

first_times : (xs : List ℕ) (k : ℕ) → first_in xs ≡ Some k → 0 < times xs k
first_times [] k e = absurd (let e' = e in cc)
first_times (x ∷ xs) k e = let same : x ≡ k = (let e' = e in cc) in let own : 0 < times (x ∷ xs) x = grind (arith, nat_tests) in rw (← same) own

after_times : (xs : List ℕ) (l k : ℕ) → after_in xs l ≡ Some k → 0 < times xs k
after_times [] l k e = absurd (let e' = e in cc)
after_times (x ∷ xs) l k e =
    elim (eqb_tells x l) [
      | inl (t, _) ↦ (let e' = rw t at e in omega (arith, first_times xs k e'))
      | inr (t, _) ↦ (let e' = rw t at e in omega (arith, after_times xs l k e'))
    ]

module _ {C : Type 0} where
  pub first_inner : (f : Forest C) (l k : ℕ) → IsDistinct f → 0 < count_of f l → first_of f l ≡ Some k → parent_of f k ≡ Some l
  first_inner f l k distinct here first =
      let s = seen f l distinct here in
      let first' : first_in s.0.children ≡ Some k = rw s.2 at first in
      parent_of_child f l k s.0 distinct s.1 (first_times s.0.children k first')

  pub next_inner : (f : Forest C) (l p k : ℕ) → IsDistinct f → parent_of f l ≡ Some p → next_of f l ≡ Some k → parent_of f k ≡ Some p
  next_inner f l p k distinct parent next =
      let r = child_of_parent f l p distinct parent in
      let next' : after_in r.0.children l ≡ Some k = rw (parent, r.2) at next in
      parent_of_child f p k r.0 distinct r.1 (after_times r.0.children l k next')

  -- a link to the first of some siblings leads to all of them
  leads : (f g : Forest C) (o : Option ℕ) → o ≡ first_in (tops g) → ((k : ℕ) → o ≡ Some k → onward f k ≡ g) → onward_at f o ≡ g
  leads f Nil o first there = rw first refl
  leads f (Tree m c ks rest) o first there = rw first (there m first)

  -- the children of a node are led to by its first child
  pub children_led : (f : Forest C) (l : ℕ) (at : At f l) → onward_at f (first_of f l) ≡ at.kids
  children_led f l at = leads f at.kids (first_of f l) (ap first_in at.children_is) at.first

  -- the tree of an inner node with its later siblings
  pub onward_step : (f : Forest C) (l p : ℕ) (c : C) → IsDistinct f → 0 < count_of f l → parent_of f l ≡ Some p → content_of f l ≡ Some c → onward f l ≡ Tree l c (onward_at f (first_of f l)) (onward_at f (next_of f l))
  onward_step f l p c distinct here parent content =
      let at = at_label f distinct l here in
      let same : at.content ≡ c = (let e = at.content_is in cc) in
      let rest : onward_at f (next_of f l) ≡ at.rest = leads f at.rest (next_of f l) (at.next_is p parent) at.next in
      rw (children_led f l at, rest, ← same) at.is

  -- the first child of the first tree leads to all children of it
  pub first_leads : (m : ℕ) (c : C) (ks rest : Forest C) → IsDistinct (Tree m c ks rest) → onward_at (Tree m c ks rest) (first_of (Tree m c ks rest) m) ≡ ks
  first_leads m c ks rest distinct =
      let own : 0 < count_of (Tree m c ks rest) m = grind (arith, nat_tests) in
      let at = at_label (Tree m c ks rest) distinct m own in
      let here : onward (Tree m c ks rest) m ≡ Tree m c ks rest = (let u : eqb m m ≡ true = grind (arith, nat_tests) in rw u refl) in
      let is : Tree m c ks rest ≡ Tree m at.content at.kids at.rest = sym here ∙ at.is in
      let kids : at.kids ≡ ks = (let e = is in cc) in
      children_led (Tree m c ks rest) m at ∙ kids
