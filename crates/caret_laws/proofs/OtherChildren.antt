-- A forest with other children at one label.
use Rattle.std.proofs.Common.{◌≡◌, ◌≢◌, ℕ, ◌+◌, ◌<◌, ◌≤◌, true, false, cond, eqb, Option, refl, sym, ap, ◌∙◌, inl, inr, arith}
use Rattle.std.proofs.lemmas.Bool.{ne_eqb}
use Rattle.std.proofs.lemmas.Bool.Decides.{eqb_tells}
use Rattle.edit_model.specs.DomModel.declared.Content.{Content}
use Rattle.edit_model.specs.DomModel.Forest.{Forest, join, count_of, tree_of, without, put_before, put_under, IsDistinct}
use Rattle.edit_model.specs.DomModel.Forest.Forest.{Nil, Tree}
use Rattle.edit_model.specs.DomModel.Places.{kids_in}
use Rattle.edit_model.proofs.DomModel.Totals.{total-without}
use Rattle.edit_model.proofs.DomModel.Links.{join-Nil, tree_of_absent}
use Rattle.edit_model.proofs.DomModel.DropTree.{without_absent}
use Rattle.edit_model.proofs.Trees.{none_or_some, tree_of-inside}
use Rattle.edit_laws.proofs.Around.{Around, Here, Below, Past, fill, count_around, off_by}

abbrev pub with_children : Forest Content → ℕ → Forest Content → Forest Content
with_children Nil p new = Nil
with_children (Tree m c ks rest) p new =
    cond (eqb m p) (Tree m c new rest) (Tree m c (with_children ks p new) (with_children rest p new))

pub children_here : (m : ℕ) (c : Content) (ks rest : Forest Content) (p : ℕ) (new : Forest Content) → eqb m p ≡ true → with_children (Tree m c ks rest) p new ≡ Tree m c new rest
children_here m c ks rest p new t = rw t refl

pub children_past : (m : ℕ) (c : Content) (ks rest : Forest Content) (p : ℕ) (new : Forest Content) → eqb m p ≡ false → with_children (Tree m c ks rest) p new ≡ Tree m c (with_children ks p new) (with_children rest p new)
children_past m c ks rest p new t = rw t refl

pub children_absent : (f : Forest Content) (p : ℕ) (new : Forest Content) → count_of f p ≡ 0 → with_children f p new ≡ f
children_absent Nil p new none = refl
children_absent (Tree m c ks rest) p new none = rw (off_by m p (omega (arith, none)), children_absent ks p new (omega (arith, none)), children_absent rest p new (omega (arith, none))) refl

-- ---- edits of the children

pub children_put : (f : Forest Content) (p : ℕ) (ks : Forest Content) (b : Option ℕ) (t : Forest Content) → put_under (with_children f p ks) p b t ≡ with_children f p (put_before ks b t)
children_put Nil p ks b t = refl
children_put (Tree m c js rest) p ks b t = elim (eqb_tells m p) [
  | inl (u, _) ↦ ap (λ g. put_under g p b t) (children_here m c js rest p ks u) ∙ rw u refl
  | inr (u, _) ↦ ap (λ g. put_under g p b t) (children_past m c js rest p ks u) ∙ rw (u, children_put js p ks b t, children_put rest p ks b t) refl
]

-- what stands below p alone is taken out there
pub children_without : (f : Forest Content) (p : ℕ) (ks : Forest Content) (x : ℕ) → count_of (with_children f p Nil) x ≡ 0 → without (with_children f p ks) x ≡ with_children f p (without ks x)
children_without Nil p ks x none = refl
children_without (Tree m c js rest) p ks x none = elim (eqb_tells m p) [
  | inl (u, _) ↦ (
      let none' = rw u at none in
      ap (λ g. without g x) (children_here m c js rest p ks u) ∙ rw (u, off_by m x (omega (arith, none')), without_absent rest x (omega (arith, none'))) refl)
  | inr (u, _) ↦ (
      let none' = rw u at none in
      ap (λ g. without g x) (children_past m c js rest p ks u)
      ∙ rw (u, off_by m x (omega (arith, none')), children_without js p ks x (omega (arith, none')), children_without rest p ks x (omega (arith, none'))) refl)
]

-- and has other children there
pub children_inner : (f : Forest Content) (p : ℕ) (ks : Forest Content) (x : ℕ) (new : Forest Content) → count_of (with_children f p Nil) x ≡ 0 → with_children (with_children f p ks) x new ≡ with_children f p (with_children ks x new)
children_inner Nil p ks x new none = refl
children_inner (Tree m c js rest) p ks x new none = elim (eqb_tells m p) [
  | inl (u, _) ↦ (
      let none' = rw u at none in
      ap (λ g. with_children g x new) (children_here m c js rest p ks u)
      ∙ (children_past m c ks rest x new (off_by m x (omega (arith, none')))
      ∙ (ap (Tree m c (with_children ks x new)) (children_absent rest x new (omega (arith, none'))) ∙ sym (children_here m c js rest p (with_children ks x new) u))))
  | inr (u, _) ↦ (
      let none' = rw u at none in
      ap (λ g. with_children g x new) (children_past m c js rest p ks u)
      ∙ (children_past m c (with_children js p ks) (with_children rest p ks) x new (off_by m x (omega (arith, none')))
      ∙ (rw (children_inner js p ks x new (omega (arith, none')), children_inner rest p ks x new (omega (arith, none'))) refl
      ∙ sym (children_past m c js rest p (with_children ks x new) u))))
]

-- ---- at two labels

pub children_swap : (f : Forest Content) (c d : ℕ) (a b : Forest Content) → c ≢ d → count_of a d ≡ 0 → count_of b c ≡ 0 → with_children (with_children f c a) d b ≡ with_children (with_children f d b) c a
children_swap Nil c d a b off out apart = refl
children_swap (Tree m k ks rest) c d a b off out apart = elim (eqb_tells m c) [
  | inl (t, e) ↦ (
      let u : eqb m d ≡ false = ne_eqb m d (λ q. off (sym e ∙ q)) in
      ap (λ g. with_children g d b) (children_here m k ks rest c a t)
      ∙ (children_past m k a rest d b u
      ∙ (ap (λ g. Tree m k g (with_children rest d b)) (children_absent a d b out)
      ∙ sym (ap (λ g. with_children g c a) (children_past m k ks rest d b u) ∙ children_here m k (with_children ks d b) (with_children rest d b) c a t))))
  | inr (t, _) ↦ elim (eqb_tells m d) [
    | inl (u, _) ↦
        ap (λ g. with_children g d b) (children_past m k ks rest c a t)
        ∙ (children_here m k (with_children ks c a) (with_children rest c a) d b u
        ∙ (ap (λ g. Tree m k g (with_children rest c a)) (sym (children_absent b c a apart))
        ∙ sym (ap (λ g. with_children g c a) (children_here m k ks rest d b u) ∙ children_past m k b rest c a t)))
    | inr (u, _) ↦
        ap (λ g. with_children g d b) (children_past m k ks rest c a t)
        ∙ (children_past m k (with_children ks c a) (with_children rest c a) d b u
        ∙ (rw (children_swap ks c d a b off out apart, children_swap rest c d a b off out apart) refl
        ∙ sym (ap (λ g. with_children g c a) (children_past m k ks rest d b u) ∙ children_past m k (with_children ks d b) (with_children rest d b) c a t)))
  ]
]

-- ---- counts

pub children_none : (f : Forest Content) (p : ℕ) (new : Forest Content) (x : ℕ) → count_of f x ≡ 0 → count_of new x ≡ 0 → count_of (with_children f p new) x ≡ 0
children_none Nil p new x none out = refl
children_none (Tree m c ks rest) p new x none out = elim (eqb_tells m p) [
  | inl (u, _) ↦ rw u (omega (arith, none, out))
  | inr (u, _) ↦ rw u (omega (arith, none, children_none ks p new x (omega (arith, none)) out, children_none rest p new x (omega (arith, none)) out))
]

children_more : (f : Forest Content) (p : ℕ) (new : Forest Content) (x : ℕ) → count_of (with_children f p Nil) x ≤ count_of (with_children f p new) x
children_more Nil p new x = omega arith
children_more (Tree m c ks rest) p new x = elim (eqb_tells m p) [
  | inl (u, _) ↦ rw u (omega arith)
  | inr (u, _) ↦ rw u (omega (arith, children_more ks p new x, children_more rest p new x))
]

children_add : (f : Forest Content) (p : ℕ) (new : Forest Content) (x : ℕ) → 0 < count_of f p → count_of (with_children f p Nil) x + count_of new x ≤ count_of (with_children f p new) x
children_add Nil p new x here = absurd (omega (arith, here))
children_add (Tree m c ks rest) p new x here = elim (eqb_tells m p) [
  | inl (u, _) ↦ rw u (omega arith)
  | inr (u, _) ↦ (
      let here' = rw u at here in
      elim (none_or_some (count_of ks p)) [
        | inl none ↦ rw u (omega (arith, children_more ks p new x, children_add rest p new x (omega (arith, here', none))))
        | inr some ↦ rw u (omega (arith, children_add ks p new x some, children_more rest p new x))
      ])
]

-- what stands among the children of p, and nowhere without p, stands nowhere else
pub children_only : (f : Forest Content) (p : ℕ) (ks : Forest Content) (x : ℕ) → IsDistinct (with_children f p ks) → 0 < count_of ks x → (0 < count_of (with_children f p ks) x → 0 < count_of (with_children f p ks) p) → count_of (with_children f p Nil) x ≡ 0
children_only f p ks x once among within = elim (none_or_some (count_of f p)) [
  | inr some ↦ omega (arith, once x, among, children_add f p ks x some)
  | inl none ↦ (
      let same = children_absent f p ks none in
      ap (λ g. count_of g x) (children_absent f p Nil none)
      ∙ (elim (none_or_some (count_of f x)) [
        | inl out ↦ out
        | inr there ↦ absurd (let p_there = within (omega (arith, there, ap (λ g. count_of g x) same)) in omega (arith, p_there, none, ap (λ g. count_of g p) same))
      ]))
]

-- ---- the children that it has

pub children_same : (f : Forest Content) (p : ℕ) (c : Content) (ks : Forest Content) → IsDistinct f → tree_of f p ≡ Tree p c ks Nil → with_children f p ks ≡ f
children_same Nil p c ks once is = refl
children_same (Tree m k js rest) p c ks once is = elim (eqb_tells m p) [
  | inl (u, _) ↦ (
      let is' = rw u at is in
      let same : js ≡ ks = ap kids_in is' in
      rw u (ap (λ g. Tree m k g rest) (sym same)))
  | inr (u, _) ↦ (
      let is' = rw u at is in
      let once_js : IsDistinct js = λ l. (let o = once l in omega (arith, o)) in
      let once_rest : IsDistinct rest = λ l. (let o = once l in omega (arith, o)) in
      elim (none_or_some (count_of js p)) [
        | inl none ↦ (
            let behind : tree_of rest p ≡ Tree p c ks Nil = sym (ap (λ g. join g (tree_of rest p)) (tree_of_absent js p none)) ∙ is' in
            rw (u, children_absent js p ks none, children_same rest p c ks once_rest behind) refl)
        | inr some ↦ (
            let o = once p in
            let none : count_of rest p ≡ 0 = omega (arith, o, some) in
            let inside : tree_of js p ≡ Tree p c ks Nil = sym (join-Nil (tree_of js p)) ∙ (sym (ap (join (tree_of js p)) (tree_of_absent rest p none)) ∙ is') in
            rw (u, children_same js p c ks once_js inside, children_absent rest p ks none) refl)
      ])
]

-- so has each tree of the forest
pub children_at : (f : Forest Content) (l p : ℕ) (c : Content) (ks : Forest Content) → IsDistinct f → tree_of f p ≡ Tree p c ks Nil → with_children (tree_of f l) p ks ≡ tree_of f l
children_at f l p c ks once is = elim (none_or_some (count_of (tree_of f l) p)) [
  | inl none ↦ children_absent (tree_of f l) p ks none
  | inr some ↦ children_same (tree_of f l) p c ks (λ k. omega (arith, once k, total-without (λ m _. cond (eqb m k) 1 0) f l)) (tree_of-inside f l p once some ∙ is)
]

-- ---- after other trees, and around a place

pub children_join : (pre g : Forest Content) (p : ℕ) (new : Forest Content) → count_of pre p ≡ 0 → with_children (join pre g) p new ≡ join pre (with_children g p new)
children_join Nil g p new none = refl
children_join (Tree m c ks rest) g p new none =
    rw (off_by m p (omega (arith, none)), children_absent ks p new (omega (arith, none)), children_join rest g p new (omega (arith, none))) refl

pub children_fill : (a : Around) (g : Forest Content) (p : ℕ) (new : Forest Content) → count_around a p ≡ 0 → with_children (fill a g) p new ≡ fill a (with_children g p new)
children_fill Here g p new none = refl
children_fill (Below m c a rest) g p new none =
    rw (off_by m p (omega (arith, none)), children_fill a g p new (omega (arith, none)), children_absent rest p new (omega (arith, none))) refl
children_fill (Past m c ks a) g p new none = rw (off_by m p (omega (arith, none)), children_absent ks p new (omega (arith, none)), children_fill a g p new (omega (arith, none))) refl
