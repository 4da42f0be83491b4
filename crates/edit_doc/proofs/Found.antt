-- The document of a forest, and which nodes are left of it with the root of their tree.
use Rattle.std.proofs.Common.{◌≡◌, ℕ, ◌+◌, ◌<◌, ◌≤◌, Bool, false, Some, None, sym, ap, ◌∙◌, inl, inr, arith}
use Rattle.std.proofs.lemmas.Bool.Decides.{eqb_tells}
use Rattle.edit_model.specs.DomModel.Forest.{Forest, join, tops, times, count_of, tree_of, parent_of, IsDistinct, IsWithin}
use Rattle.edit_model.specs.DomModel.Forest.Forest.{Nil, Tree}
use Rattle.edit_model.specs.DomModel.Pruned.{pruned}
use Rattle.edit_model.proofs.DomModel.Links.{seen, tree_of_absent}
use Rattle.edit_model.proofs.DomModel.Pruning.{count_of-pruned, tree_of-pruned}
use Rattle.edit_model.proofs.DomModel.Stands.{true_or_false, times-tops, parent_stands}
use Rattle.edit_doc.proofs.HiddenTrees.{tops_stay}

module _ {C : Type 0} where
  pub count_of-join : (f g : Forest C) (l : ℕ) → count_of (join f g) l ≡ count_of f l + count_of g l
  count_of-join Nil g l = omega arith
  count_of-join (Tree m c ks rest) g l = omega (arith, count_of-join rest g l)

  -- a tree has no more than the forest
  pub tree_of-fewer : (f : Forest C) (n l : ℕ) → count_of (tree_of f n) l ≤ count_of f l
  tree_of-fewer Nil n l = omega arith
  tree_of-fewer (Tree m c ks rest) n l = elim (eqb_tells m n) [
    | inl (e, _) ↦ rw e (omega arith)
    | inr (e, _) ↦ rw (e, count_of-join (tree_of ks n) (tree_of rest n) l) (omega (arith, tree_of-fewer ks n l, tree_of-fewer rest n l))
  ]

  -- a node without a parent is a root
  pub root_is_top : (f : Forest C) (l : ℕ) → IsDistinct f → 0 < count_of f l → parent_of f l ≡ None → 0 < times (tops f) l
  root_is_top f l once here root =
      let s = seen f l once here in
      let own : s.0.parent ≡ None = rw s.2 at root in
      elim (parent_stands None f l s.0 s.1) [ inl (_, h) ↦ h | inr (q, _, up, _, _) ↦ absurd (let e : Some q ≡ None = sym up ∙ own in cc) ]

  module _ (k : ℕ → Bool) where
    -- what is in the tree of a node that is left
    pub tree_detached : (f : Forest C) (r l : ℕ) → IsDistinct f → 0 < count_of (pruned k f) r → IsWithin f r l → 0 < count_of (pruned k f) l
    tree_detached f r l once detached within =
        let e : count_of (tree_of (pruned k f) r) l ≡ count_of (tree_of f r) l = ap (λ t. count_of t l) (tree_of-pruned k f r once detached) in
        omega (arith, e, within, tree_of-fewer (pruned k f) r l)

    -- a root that isn't pruned
    pub root_stays : (f : Forest C) (r : ℕ) → 0 < times (tops f) r → k r ≡ false → 0 < count_of (pruned k f) r
    root_stays f r top out = omega (arith, top, tops_stay k f r out, times-tops (pruned k f) r)

    -- the root of a node that is left
    pub root_detached : (f : Forest C) (r l : ℕ) → IsDistinct f → 0 < times (tops f) r → IsWithin f r l → 0 < count_of (pruned k f) l → 0 < times (tops (pruned k f)) r
    root_detached Nil r l once top within detached = absurd (omega (arith, detached))
    root_detached (Tree m c ks rest) r l once top within detached =
        let le = count_of-pruned k rest l in
        let one : count_of (Tree m c ks Nil) l + count_of rest l ≤ 1 = omega (arith, once l) in
        elim (eqb_tells m r) [
          | inl (e, _) ↦ (
              let own : 0 < count_of (Tree m c ks Nil) l = rw e at within in
              elim (true_or_false (k m)) [
                | inl t ↦ absurd (let left' = rw t at detached in omega (arith, one, own, le, left'))
                | inr t ↦ rw (t, e) (omega arith)
              ])
          | inr (e, _) ↦ (
              let top' : 0 < times (tops rest) r = (let t = rw e at top in omega (arith, t)) in
              let once_r : 0 + (count_of ks r + count_of rest r) ≤ 1 = rw e at (once r) in
              let none : count_of ks r ≡ 0 = omega (arith, once_r, top', times-tops rest r) in
              let within' : IsWithin rest r l = rw (e, tree_of_absent ks r none) at within in
              let there : 0 < count_of rest l = omega (arith, within', tree_of-fewer rest r l) in
              let ih = root_detached rest r l (λ j. omega (arith, once j)) top' within' in
              elim (true_or_false (k m)) [
                | inl t ↦ (let left' = rw t at detached in rw t (ih left'))
                | inr t ↦ (let left' : 0 < count_of (Tree m c ks Nil) l + count_of (pruned k rest) l = (let u = rw t at detached in omega (arith, u)) in rw t (omega (arith, ih (omega (arith, left', there, one)))))
              ])
        ]
