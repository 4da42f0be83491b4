-- Paths by steps: from a node to its children, and from a node to its parent.
use Rattle.std.proofs.Common.{◌≡◌, ℕ, zero, suc, ◌+◌, ◌-◌, ◌<◌, ◌≤◌, true, false, List, [], ◌∷◌, ◌++◌, Option, Some, None, refl, sym, ap, inl, inr, arith, eqb}
use Rattle.std.proofs.lemmas.Bool.Decides.{eqb_tells, nat_tests}
use Rattle.std.specs.Option.{option_map}
use Rattle.node_arena.specs.DomModel.Forest.{Forest, Seen, tops, times, count_of, parent_of, first_of, IsDistinct, IsWithin}
use Rattle.node_arena.specs.DomModel.Forest.Forest.{Nil, Tree}
use Rattle.node_arena.specs.DomModel.Places.{place_in, index_of}
use Rattle.node_arena.proofs.DomModel.Stands.{Stands, times-tops, times-children, count_of-Stands}
use Rattle.node_arena.proofs.DomModel.Links.{child_of_parent}
use Rattle.node_arena.proofs.DomModel.Within.{within_root}
use Rattle.node_paths.specs.Onward.{onward_at, node_below}
use Rattle.node_paths.specs.Paths.{node_in, path_in, path_of, stepped}

-- ---- down

-- at the first of some trees
pub node_in-first : {C : Type 0} (f : Forest C) (m : ℕ) (c : C) (ks rest : Forest C) (is : List ℕ) → onward_at f (first_of f m) ≡ ks → node_in (Tree m c ks rest) (0 ∷ is) ≡ node_below f m is
node_in-first f m c ks rest [] e = refl
node_in-first f m c ks rest (j ∷ is) e = rw e refl

pub node_in-later : {C : Type 0} (m : ℕ) (c : C) (ks rest : Forest C) (i : ℕ) (is : List ℕ) → 0 < i → node_in (Tree m c ks rest) (i ∷ is) ≡ node_in rest ((i - 1) ∷ is)
node_in-later m c ks rest zero is h = absurd (omega (arith, h))
node_in-later m c ks rest (suc i) is h = let e : suc i - 1 ≡ i = omega arith in rw e refl

pub node_in-none : {C : Type 0} (f : Forest C) (is : List ℕ) → f ≡ Nil → node_in f is ≡ None
node_in-none Nil is e = refl
node_in-none (Tree m c ks rest) is e = absurd (let e' = e in cc)

-- ---- up

path_absent : {C : Type 0} (f : Forest C) (l : ℕ) → count_of f l ≡ 0 → path_in f l ≡ None
path_absent Nil l none = refl
path_absent (Tree m c ks rest) l none =
    elim (eqb_tells m l) [
      | inl (t, _) ↦ absurd (let none' = rw t at none in omega (arith, none'))
      | inr (t, _) ↦ (let none' = rw t at none in rw (t, path_absent ks l (omega (arith, none')), path_absent rest l (omega (arith, none'))) refl)
    ]

-- a tree of the list itself is one step away
path_top : {C : Type 0} (f : Forest C) (l : ℕ) → IsDistinct f → 0 < times (tops f) l → path_in f l ≡ Some (place_in (tops f) l ∷ [])
path_top Nil l once h = absurd (omega (arith, h))
path_top (Tree m c ks rest) l once h =
    elim (eqb_tells m l) [
      | inl (t, _) ↦ rw t refl
      | inr (t, _) ↦ (
          let h' : 0 < times (tops rest) l = (let h2 = rw t at h in omega (arith, h2)) in
          let in_rest : (k : ℕ) → count_of rest k ≤ 1 = λ k. omega (arith, once k) in
          let none : count_of ks l ≡ 0 = (let o = once l in let o' = rw t at o in omega (arith, o', times-tops rest l, h')) in
          let s : place_in (tops rest) l + 1 ≡ suc (place_in (tops rest) l) = omega arith in
          rw (t, path_absent ks l none, path_top rest l in_rest h', s) refl)
    ]

stepped_end : (xs : List ℕ) (x i : ℕ) → option_map stepped (Some ((x ∷ xs) ++ (i ∷ []))) ≡ Some ((suc x ∷ xs) ++ (i ∷ []))
stepped_end xs x i = refl

-- a path that is there has a first index
pub record Leads {C : Type 0} (f : Forest C) (l : ℕ) : Type 0 where
  pub first : ℕ
  pub further : List ℕ
  pub is : path_in f l ≡ Some (first ∷ further)

-- the path of a child goes one step further than that of its parent
path_child : {C : Type 0} (q : Option ℕ) (f : Forest C) (l p : ℕ) (r : Seen C) → IsDistinct f → Stands q f p r → 0 < times r.children l
    → (way : Leads f p) × (path_in f l ≡ Some ((way.first ∷ way.further) ++ (place_in r.children l ∷ [])))
path_child q Nil l p r once s h = absurd s
path_child q (Tree m c ks rest) l p r once (inl (same, is)) h =
    let kids : r.children ≡ tops ks = ap (λ (x : Seen _). x.children) is in
    let h' : 0 < times (tops ks) l = rw kids at h in
    let in_ks : (k : ℕ) → count_of ks k ≤ 1 = λ k. omega (arith, once k) in
    elim (eqb_tells m l) [
      | inl (t, _) ↦ absurd (let o = once l in let o' = rw t at o in omega (arith, o', times-tops ks l, h'))
      | inr (t, _) ↦ (
          elim (eqb_tells m p) [
            | inl (u, _) ↦ (record { first = 0; further = []; is = rw u refl }, rw (t, path_top ks l in_ks h', kids) refl)
            | inr (_, off) ↦ absurd (off same)
          ])
    ]
path_child q (Tree m c ks rest) l p r once (inr (inl s)) h =
    let in_ks : (k : ℕ) → count_of ks k ≤ 1 = λ k. omega (arith, once k) in
    let below = path_child (Some m) ks l p r in_ks s h in
    let there = count_of-Stands (Some m) ks p r s in
    let child = times-children (Some m) ks p r l s in
    elim (eqb_tells m l) [
      | inl (t, _) ↦ absurd (let o = once l in let o' = rw t at o in omega (arith, o', child, h))
      | inr (t, _) ↦ (
          elim (eqb_tells m p) [
            | inl (u, _) ↦ absurd (let o = once p in let o' = rw u at o in omega (arith, o', there))
            | inr (u, _) ↦ (record { first = 0; further = below.0.first ∷ below.0.further; is = rw (u, below.0.is) refl }, rw (t, below.1) refl)
          ])
    ]
path_child q (Tree m c ks rest) l p r once (inr (inr s)) h =
    let in_rest : (k : ℕ) → count_of rest k ≤ 1 = λ k. omega (arith, once k) in
    let below = path_child q rest l p r in_rest s h in
    let there = count_of-Stands q rest p r s in
    let child = times-children q rest p r l s in
    let no_p : count_of ks p ≡ 0 = omega (arith, once p, there) in
    let no_l : count_of ks l ≡ 0 = omega (arith, once l, child, h) in
    elim (eqb_tells m l) [
      | inl (t, _) ↦ absurd (let o = once l in let o' = rw t at o in omega (arith, o', child, h))
      | inr (t, _) ↦ (
          elim (eqb_tells m p) [
            | inl (u, _) ↦ absurd (let o = once p in let o' = rw u at o in omega (arith, o', there))
            | inr (u, _) ↦ (record { first = suc below.0.first; further = below.0.further; is = rw (u, path_absent ks p no_p, below.0.is) refl }, rw (t, path_absent ks l no_l, below.1) refl)
          ])
    ]

below_root : {C : Type 0} (c : C) (ks rest : Forest C) (l p : ℕ) → parent_of (Tree 0 c ks rest) l ≡ Some p → eqb 0 l ≡ false
below_root c ks rest l p parent =
    elim (eqb_tells 0 l) [
      | inl (t, _) ↦ absurd (let e = rw t at parent in let e' = e in cc)
      | inr (t, _) ↦ t
    ]

-- of two nodes of the document, a parent and a child of it
pub path_of-child : {C : Type 0} (c : C) (ks rest : Forest C) (l p : ℕ) → IsDistinct (Tree 0 c ks rest) → parent_of (Tree 0 c ks rest) l ≡ Some p → IsWithin (Tree 0 c ks rest) 0 l
    → (is : List ℕ) × (path_of (Tree 0 c ks rest) p ≡ Some is) × (path_of (Tree 0 c ks rest) l ≡ Some (is ++ (index_of (Tree 0 c ks rest) l ∷ [])))
unfolding path_of
path_of-child c ks rest l p once parent inner =
    let r = child_of_parent (Tree 0 c ks rest) l p once parent in
    let in_ks : (k : ℕ) → count_of ks k ≤ 1 = λ k. omega (arith, once k) in
    let index : index_of (Tree 0 c ks rest) l ≡ place_in r.0.children l = rw (parent, r.2) refl in
    let low : eqb 0 l ≡ false = below_root c ks rest l p parent in
    let low' : eqb l 0 ≡ false = grind (arith, nat_tests, low) in
    let inside : 0 < count_of ks l = (let i = rw low at inner in omega (arith, i)) in
    elim r.1 [
      | inl (root, is) ↦ (
          let kids : r.0.children ≡ tops ks = ap (λ (x : Seen _). x.children) is in
          let h : 0 < times (tops ks) l = rw (← kids) r.3 in
          let t : eqb p 0 ≡ true = grind (arith, nat_tests, root) in
          ([], rw t refl, rw (low', index, kids, path_top ks l in_ks h) refl))
      | inr (inl s) ↦ (
          let way = path_child (Some 0) ks l p r.0 in_ks s r.3 in
          let there = count_of-Stands (Some 0) ks p r.0 s in
          let t : eqb p 0 ≡ false = elim (eqb_tells 0 p) [
            | inl (u, _) ↦ absurd (let o = once p in let o' = rw u at o in omega (arith, o', there))
            | inr (u, _) ↦ grind (arith, nat_tests, u)
          ] in
          (way.0.first ∷ way.0.further, rw t way.0.is, rw (low', index) way.1))
      | inr (inr s) ↦ absurd (let child = times-children None rest p r.0 l s in omega (arith, once l, child, r.3, inside))
    ]

-- a node of the document without a parent is the document
pub root_is : {C : Type 0} (f : Forest C) (l : ℕ) → IsDistinct f → 0 < count_of f 0 → parent_of f l ≡ None → IsWithin f 0 l → l ≡ 0
root_is f l once here root inner =
    elim (eqb_tells l 0) [
      | inl (_, same) ↦ same
      | inr (_, off) ↦ absurd (within_root f 0 once here l (λ e. off (sym e)) root inner)
    ]
