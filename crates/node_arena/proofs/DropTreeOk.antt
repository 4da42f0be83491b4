-- A tree is given up leaf by leaf, and nothing else.
use Rattle.std.proofs.Common.{◌≡◌, ◌≢◌, ℕ, ◌-◌, ◌*◌, ◌<◌, ◌≤◌, cond, Option, Some, None, IsSome, refl, sym, ap, subst, ◌∙◌, inl, inr, arith, eqb}
use Rattle.std.proofs.lemmas.Bool.Decides.{eqb_tells}
use Rattle.dom_model.specs.declared.Content.{Content}
use Rattle.dom_model.specs.ArenaState.{ArenaState, IsValid}
use Rattle.dom_model.specs.Forest.{Forest, total, count_of, IsDistinct, parent_of, first_of, depth_of, tree_of, without, unlink, IsWithin}
use Rattle.dom_model.specs.Forest.Forest.{Nil, Tree}
use Rattle.dom_model.proofs.Totals.{total-without}
use Rattle.dom_model.proofs.Links.{seen, parent_count, parent_of-unlink, first_of-unlink, eqb_refl_true}
use Rattle.dom_model.proofs.Within.{within_self, within_child, within_step, within_root, depth_of-parent, depth_of_low}
use Rattle.dom_model.proofs.Neighbours.{parent_of-first}
use Rattle.dom_model.proofs.DropTree.{without-unlink, without-below, left-below, leaf_tree, parent_of-without, depth_of-without}
use Rattle.node_arena.specs.declared.NodeRef.{NodeRef}
use Rattle.node_arena.specs.Held.{Holds, Drops, DropsTree}

module _ {C : Type 0} (f : Forest C) (once : IsDistinct f) where
  -- a node made loose has no parent, and its children as before
  pub loose_parent : (p n : ℕ) → parent_of f n ≡ Some p → parent_of (unlink f n) n ≡ None
  loose_parent p n child =
      let s = seen f n once (parent_count f n p once child).0 in
      parent_of-unlink f p n once child n s.0 s.2 ∙ ap (λ v. cond v None s.0.parent) (eqb_refl_true n)

  pub loose_first : (p n : ℕ) → parent_of f n ≡ Some p → first_of (unlink f n) n ≡ first_of f n
  loose_first p n child = elim (eqb_tells p n) [
    | inl (_, is) ↦ absurd (let deep = depth_of-parent f n p once child in let e = ap (depth_of f) is in omega (arith, deep, e))
    | inr (t, _) ↦ first_of-unlink f p n once child n ∙ rw t refl
  ]

  pub parent_apart : (p n : ℕ) → parent_of f n ≡ Some p → n ≢ p
  parent_apart p n child is = (let deep = depth_of-parent f n p once child in let e = ap (depth_of f) is in omega (arith, deep, e))

-- what a child that is given up leaves
pub drops_child : (old made new : ArenaState) (r : NodeRef) (p : ℕ) → IsDistinct old.trees → parent_of old.trees r.label ≡ Some p → made ≡ record old { trees = unlink old.trees r.label } → Drops made new r → Drops old new r
drops_child old made new r p once child is drops =
    let d : Drops (record old { trees = unlink old.trees r.label }) new r = subst (λ (s : ArenaState). Drops s new r) is drops in
    record {
      trees = d.trees ∙ without-unlink old.trees p r.label once child;
      next = d.next;
      cap = d.cap;
      gone = d.gone;
      held = d.held;
      keeps = d.keeps;
    }

-- so far leaves of the tree of top were given up, and `at` is a node that is left
pub record Dropping (start now : ArenaState) (top at : NodeRef) : Type 0 where
  pub held : Holds now at
  pub inside : IsWithin now.trees top.label at.label
  pub kept : Holds now top
  pub loose : parent_of now.trees top.label ≡ None
  pub same : without now.trees top.label ≡ without start.trees top.label
  pub less : (l : ℕ) → count_of (tree_of now.trees top.label) l ≤ count_of (tree_of start.trees top.label) l
  pub next : now.next ≡ start.next
  pub cap : now.cap ≡ start.cap
  pub was : (q : NodeRef) → Holds now q → Holds start q
  pub keeps : (q : NodeRef) → Holds start q → count_of (tree_of start.trees top.label) q.label ≡ 0 → Holds now q

pub dropping_start : (s : ArenaState) (top : NodeRef) → IsValid s → Holds s top → parent_of s.trees top.label ≡ None → Dropping s s top top
dropping_start s top law held loose = record {
  held = held;
  inside = within_self s.trees top.label law.distinct (law.here top.slot top.label held);
  kept = held;
  loose = loose;
  same = refl;
  less = λ l. omega arith;
  next = refl;
  cap = refl;
  was = λ q h. h;
  keeps = λ q h out. h;
}

module _ (start now : ArenaState) (top at : NodeRef) (law : IsValid now) (d : Dropping start now top at) where
  abbrev f : Forest Content
  f = now.trees

  here : 0 < count_of f top.label
  here = law.here top.slot top.label d.kept

  pub dropping_down : (child : NodeRef) → first_of f at.label ≡ Some child.label → Holds now child → Dropping start now top child
  dropping_down child first held = record {
    held = held;
    inside = within_child f top.label law.distinct here child.label at.label (parent_of-first f law.distinct at.label child.label first) d.inside;
    kept = d.kept;
    loose = d.loose;
    same = d.same;
    less = d.less;
    next = d.next;
    cap = d.cap;
    was = d.was;
    keeps = d.keeps;
  }

  -- the measure of the walk: each node counts for two, and a step down for one
  pub falls_down : (child : NodeRef) → first_of f at.label ≡ Some child.label → Holds now child → 2 * total (λ (_ : ℕ) (_ : Content). 1) f - depth_of f child.label < 2 * total (λ (_ : ℕ) (_ : Content). 1) f - depth_of f at.label
  falls_down child first held =
      omega (arith, depth_of-parent f child.label at.label law.distinct (parent_of-first f law.distinct at.label child.label first), depth_of_low f child.label law.distinct (law.here child.slot child.label held))

  -- `at` has no child and no parent: it is the top
  pub top_is : parent_of f at.label ≡ None → at.label ≡ top.label
  top_is root = elim (eqb_tells top.label at.label) [
    | inl (_, is) ↦ sym is
    | inr (_, off) ↦ absurd (let w = within_root f top.label law.distinct here at.label off root d.inside in w)
  ]

  module _ (parent : NodeRef) (child : parent_of f at.label ≡ Some parent.label) (leaf : first_of f at.label ≡ None) (held : Holds now parent) (after : ArenaState) (drops : Drops now after at) where
    off : top.label ≢ at.label
    off is = (let t : None ≡ Some parent.label = sym d.loose ∙ (ap (parent_of f) is ∙ child) in cc)

    -- only the leaf goes
    own : (c : Content) × (tree_of f at.label ≡ Tree at.label c Nil Nil)
    own = leaf_tree f at.label law.distinct (parent_count f at.label parent.label law.distinct child).0 leaf

    out : (l : ℕ) → at.label ≢ l → count_of (tree_of f at.label) l ≡ 0
    out l apart = ap (λ g. count_of g l) own.1 ∙ elim (eqb_tells at.label l) [ inl (_, is) ↦ absurd (apart is) | inr (t, _) ↦ rw t refl ]

    stays : 0 < count_of (without f at.label) top.label
    stays = omega (arith, total-without (λ m _. cond (eqb m top.label) 1 0) f at.label, out top.label (λ e. off (sym e)), here)

    pub dropping_up : Dropping start after top parent
    dropping_up =
        let n = at.label in
        let up = within_step f top.label law.distinct here n parent.label off child d.inside in
        record {
          held = drops.keeps parent held (λ e. parent_apart f law.distinct parent.label n child (sym e));
          inside = subst (λ g. IsWithin g top.label parent.label) (sym drops.trees) (omega (arith, left-below f top.label n parent.label law.distinct off d.inside, up, out parent.label (parent_apart f law.distinct parent.label n child)));
          kept = drops.keeps top d.kept off;
          loose = ap (λ g. parent_of g top.label) drops.trees ∙ (parent_of-without f n top.label law.distinct stays ∙ d.loose);
          same = ap (λ g. without g top.label) drops.trees ∙ (without-below f top.label n law.distinct off d.inside ∙ d.same);
          less = λ l. subst (λ g. count_of (tree_of g top.label) l ≤ count_of (tree_of start.trees top.label) l) (sym drops.trees) (omega (arith, left-below f top.label n l law.distinct off d.inside, d.less l));
          next = drops.next ∙ d.next;
          cap = drops.cap ∙ d.cap;
          was = λ q h. d.was q (drops.held q h);
          keeps = λ q h out'. drops.keeps q (d.keeps q h out') (λ e. (let t = d.inside in let u = d.less n in let v = ap (count_of (tree_of start.trees top.label)) e in omega (arith, t, u, v, out')));
        }

    pub falls_up : 2 * total (λ (_ : ℕ) (_ : Content). 1) after.trees - depth_of after.trees parent.label < 2 * total (λ (_ : ℕ) (_ : Content). 1) f - depth_of f at.label
    falls_up =
        let n = at.label in
        let up = parent_apart f law.distinct parent.label n child in
        let deep : depth_of after.trees parent.label ≡ depth_of f parent.label = ap (λ g. depth_of g parent.label) drops.trees ∙ depth_of-without f n parent.label (out parent.label up) in
        let few = total-without (λ (_ : ℕ) (_ : Content). 1) f n in
        let one = ap (total (λ (_ : ℕ) (_ : Content). 1)) own.1 in
        let left = ap (total (λ (_ : ℕ) (_ : Content). 1)) drops.trees in
        omega (arith, deep, few, one, left, depth_of-parent f n parent.label law.distinct child, depth_of_low f n law.distinct (parent_count f n parent.label law.distinct child).0)

-- ---- the end: the top itself

pub dropping_end : (start now new : ArenaState) (top at : NodeRef) → IsValid start → IsValid now → IsValid new → Dropping start now top at → first_of now.trees at.label ≡ None → parent_of now.trees at.label ≡ None → Drops now new at → DropsTree start new top
dropping_end start now new top at begun law over d leaf root drops =
    let is : at.label ≡ top.label = top_is start now top at law d root in
    let trees : new.trees ≡ without start.trees top.label = drops.trees ∙ (ap (without now.trees) is ∙ d.same) in
    record {
      trees = trees;
      next = drops.next ∙ d.next;
      cap = drops.cap ∙ d.cap;
      held = λ q h. d.was q (drops.held q h);
      gone = λ q h. (
          let there = subst (λ g. 0 < count_of g q.label) trees (over.here q.slot q.label h) in
          omega (arith, there, total-without (λ m _. cond (eqb m q.label) 1 0) start.trees top.label, begun.distinct q.label));
      keeps = λ q h out. drops.keeps q (d.keeps q h out) (λ e. (
          let t = d.inside in
          let u = d.less at.label in
          let v = ap (count_of (tree_of start.trees top.label)) e in
          omega (arith, t, u, v, out)));
    }

pub given : (o : Option ℕ) → IsSome o → (p : ℕ) × (o ≡ Some p)
given None h = absurd (let h' = h in cc)
given (Some p) h = (p, refl)
