-- What a walk over trees needs at a node: what lies below it and after it.
use Rattle.std.proofs.Common.{◌≡◌, ℕ, ◌+◌, ◌<◌, ◌≤◌, Option, Some, None, IsSome, IfSome, refl, ap, subst, inl, inr, arith, lit<}
use Rattle.std.proofs.lemmas.Bool.Decides.{eqb_tells}
use Rattle.node_arena.specs.DomModel.declared.Content.{Content}
use Rattle.node_arena.specs.DomModel.Forest.{Forest, total, count_of, content_of, parent_of, first_of, next_of, IsDistinct, RisesFrom}
use Rattle.node_arena.specs.DomModel.Forest.Forest.{Nil, Tree}
use Rattle.node_arena.specs.DomModel.ArenaState.{ArenaState, IsValid}
use Rattle.node_arena.specs.DomModel.Places.{kids_in}
use Rattle.node_arena.specs.declared.NodeRef.{NodeRef}
use Rattle.node_arena.specs.Held.{Holds, NamesHeld, label}
use Rattle.node_paths.specs.Onward.{onward_at, IsInner}
use Rattle.node_arena.proofs.DomModel.Stands.{parent_stands}
use Rattle.node_arena.proofs.DomModel.Links.{seen}
use Rattle.node_arena.proofs.Rebuild.{times-rising}
use Rattle.node_paths.proofs.Onward.{onward_step, first_inner, next_inner, first_leads}

-- how many nodes stand in the trees from a node on
abbrev pub size_from : Forest Content → Option ℕ → ℕ
size_from f o = total (λ _ _. 1) (onward_at f o)

pub record Visit (f : Forest Content) (l : ℕ) (c : Content) : Type 0 where
  pub is : onward_at f (Some l) ≡ Tree l c (onward_at f (first_of f l)) (onward_at f (next_of f l))
  pub below : size_from f (first_of f l) < size_from f (Some l)
  pub after : size_from f (next_of f l) < size_from f (Some l)
  pub both : size_from f (Some l) ≡ 1 + (size_from f (first_of f l) + size_from f (next_of f l))
  pub first : IsInner f (first_of f l)
  pub next : IsInner f (next_of f l)

some_parent : (f : Forest Content) (l : ℕ) → IsSome (parent_of f l) → (p : ℕ) × (parent_of f l ≡ Some p)
some_parent f l h = by_case (parent_of f l) refl h
  where
    by_case : (o : Option ℕ) → parent_of f l ≡ o → IsSome o → (p : ℕ) × (parent_of f l ≡ Some p)
    by_case None e h = absurd (let e' = e in let h' = h in cc)
    by_case (Some p) e h = (p, e)

inner_by : (f : Forest Content) (o : Option ℕ) (p : ℕ) → ((k : ℕ) → o ≡ Some k → parent_of f k ≡ Some p) → IsInner f o
inner_by f None p h = tt
inner_by f (Some k) p h = rw (h k refl) refl

pub inner_first : (f : Forest Content) (l : ℕ) → IsDistinct f → 0 < count_of f l → IsInner f (first_of f l)
inner_first f l distinct here = inner_by f (first_of f l) l (λ k e. first_inner f l k distinct here e)

pub visit : (f : Forest Content) (l : ℕ) (c : Content) → IsDistinct f → 0 < count_of f l → IsSome (parent_of f l) → content_of f l ≡ Some c → Visit f l c
visit f l c distinct here inner content =
    let p = some_parent f l inner in
    let step = onward_step f l p.0 c distinct here p.1 content in
    let size : size_from f (Some l) ≡ 1 + (size_from f (first_of f l) + size_from f (next_of f l)) = ap (total (λ _ _. 1)) step in
    record {
      is = step;
      below = omega (arith, size);
      after = omega (arith, size);
      both = size;
      first = inner_first f l distinct here;
      next = inner_by f (next_of f l) p.0 (λ k e. next_inner f l p.0 k distinct p.1 e);
    }

-- at a node of an arena that a walk has come to
pub come_to : (a : ArenaState) → IsValid a → (o : Option NodeRef) (node : NodeRef) (c : Content) → o ≡ Some node → IfSome o (λ r. Holds a r) → IsInner a.trees (label o) → content_of a.trees node.label ≡ Some c → Visit a.trees node.label c
come_to a valid o node c is held inner content =
    let held' : Holds a node = rw is at held in
    let inner' : IsSome (parent_of a.trees node.label) = rw is at inner in
    visit a.trees node.label c valid.distinct (valid.here node.slot node.label held') inner' content

-- a link that names the first child, or the next sibling, leads to an inner node
pub led : (a : ArenaState) (link : Option NodeRef) (named : Option ℕ) → NamesHeld a link named → IsInner a.trees named → IsInner a.trees (label link)
led a link named names inner = rw names.is inner

pub size_led : (a : ArenaState) (link : Option NodeRef) (named : Option ℕ) → NamesHeld a link named → size_from a.trees (label link) ≡ size_from a.trees named
size_led a link named names = rw names.is refl

pub size_here : (a : ArenaState) (o : Option NodeRef) (node : NodeRef) → o ≡ Some node → size_from a.trees (label o) ≡ size_from a.trees (Some node.label)
size_here a o node is = ap (λ q. size_from a.trees (label q)) is

-- the document is the first tree
document_first : (m : ℕ) (c : Content) (ks rest : Forest Content) → IsDistinct (Tree m c ks rest) → RisesFrom 0 (Tree m c ks rest) → 0 < count_of (Tree m c ks rest) 0 → parent_of (Tree m c ks rest) 0 ≡ None → m ≡ 0
document_first m c ks rest distinct rising here root =
    elim (eqb_tells m 0) [
      | inl (_, same) ↦ same
      | inr (_, other) ↦ (
          let s = seen (Tree m c ks rest) 0 distinct here in
          let alone : s.0.parent ≡ None = rw s.2 at root in
          let above : 1 ≤ m = grind (arith, other) in
          let none = times-rising (Tree m c ks rest) 1 0 (above, rising.1) (lit< tt) in
          elim (parent_stands None (Tree m c ks rest) 0 s.0 s.1) [
            | inl (_, top) ↦ absurd (omega (arith, none, top))
            | inr (p, _, is, _, _) ↦ absurd (let is' = is in cc)
          ])
    ]

document_kids : (f : Forest Content) → IsDistinct f → RisesFrom 0 f → 0 < count_of f 0 → parent_of f 0 ≡ None → onward_at f (first_of f 0) ≡ kids_in f
document_kids Nil distinct rising here root = absurd (omega (arith, here))
document_kids (Tree m c ks rest) distinct rising here root =
    let is = document_first m c ks rest distinct rising here root in
    subst (λ (k : ℕ). onward_at (Tree m c ks rest) (first_of (Tree m c ks rest) k) ≡ ks) is (first_leads m c ks rest distinct)

-- the document's children lead to all that stands below it
pub document_leads : (a : ArenaState) → IsValid a → onward_at a.trees (first_of a.trees 0) ≡ kids_in a.trees
document_leads a valid = document_kids a.trees valid.distinct valid.rising valid.document valid.root

pub document_inner : (a : ArenaState) → IsValid a → IsInner a.trees (first_of a.trees 0)
document_inner a valid = inner_first a.trees 0 valid.distinct valid.document
