-- The tree of a node within its forest: what comes in it and after it.
use Rattle.std.proofs.Common.{◌≡◌, ◌≢◌, ℕ, zero, suc, ◌+◌, ◌-◌, ◌<◌, ◌≤◌, ◌^◌, ◌⊎◌, max, cond, Option, Some, None, refl, sym, ap, subst, ◌∙◌, inl, inr, arith, eqb, true, false, []}
use Rattle.std.proofs.lemmas.Bool.Decides.{eqb_tells}
use Rattle.std.specs.Option.{option_map, option_map_or}
use Rattle.edit_model.specs.DomModel.declared.Content.{Content}
use Rattle.edit_model.specs.DomModel.declared.Content.TheVariants.{Document, Element, Words, Remark}
use Rattle.edit_model.specs.DomModel.Contents.{words_length, char_length}
use Rattle.edit_model.specs.DomModel.ArenaState.{ArenaState, IsValid}
use Rattle.edit_model.specs.DomModel.Forest.{Forest, Seen, IsDistinct, total, count_of, parent_of, first_of, next_of, children_of, content_of, depth_of, tree_of, IsWithin, join, first_in, tops, times}
use Rattle.edit_model.specs.DomModel.Forest.Forest.{Nil, Tree}
use Rattle.edit_model.specs.DomModel.Places.{levels}
use Rattle.edit_model.specs.DomModel.TreeOrder.{total_from, total_after}
use Rattle.edit_model.proofs.DomModel.Links.{seen, parent_count, child_of_parent, tree_of_absent}
use Rattle.edit_model.proofs.DomModel.Within.{within_self, within_parent, within_child, within_step, within_root, depth_of-parent, depth_of_low}
use Rattle.edit_model.proofs.DomModel.Neighbours.{parent_of-first, parent_of-next}
use Rattle.edit_model.proofs.DomModel.Parts.{Part, Part_count, Part-kids, Part-sibling, at_label, total_from_Part, total_after_Part}
use Rattle.edit_model.proofs.DomModel.Walks.{total_from-first, total_from-leaf, total_after-next, total_after-last, total_from_le}
use Rattle.edit_model.proofs.DomModel.Deepest.{total-bound, height_is}
use Rattle.edit_model.specs.NodeArena.declared.NodeRef.{NodeRef}
use Rattle.edit_model.specs.NodeArena.Held.{Holds}
use Rattle.edit_parts.specs.declared.trees.Place.{Place}
use Rattle.edit_parts.specs.Walk.{IsIn, Goes, Stops}

module _ {C : Type 0} where
  off_head : (m : ℕ) (c : C) (ks rest : Forest C) (l : ℕ) → count_of (Tree m c ks rest) l ≤ 1 → 0 < count_of ks l + count_of rest l → eqb m l ≡ false
  off_head m c ks rest l once some = elim (eqb_tells m l) [ inl (t, _) ↦ absurd (let o = rw t at once in omega (arith, o, some)) | inr (t, _) ↦ t ]

  tree_of_Part : (w : ℕ → C → ℕ) (f : Forest C) (l : ℕ) (c : C) (ks rest : Forest C) (n : ℕ) → count_of f l ≤ 1 → Part w f (Tree l c ks rest) n → tree_of f l ≡ Tree l c ks Nil
  tree_of_Part w Nil l c ks rest n once p = absurd p
  tree_of_Part w (Tree m d js more) l c ks rest n once (inl (e, _)) =
      let is : m ≡ l = (let e' = e in cc) in
      elim (eqb_tells m l) [
        | inl (t, _) ↦ rw t (let e' = e in cc)
        | inr (_, off) ↦ absurd (off is)
      ]
  tree_of_Part w (Tree m d js more) l c ks rest n once (inr (inl (k, p, _))) =
      let here = Part_count w js l c ks rest k p in
      let t : eqb m l ≡ false = off_head m d js more l once (omega (arith, here)) in
      rw t (
      ap (λ g. join g (tree_of more l)) (tree_of_Part w js l c ks rest k (omega (arith, once)) p)
      ∙ ap (join (Tree l c ks Nil)) (tree_of_absent more l (omega (arith, once, here))))
  tree_of_Part w (Tree m d js more) l c ks rest n once (inr (inr p)) =
      let here = Part_count w more l c ks rest n p in
      let t : eqb m l ≡ false = off_head m d js more l once (omega (arith, here)) in
      rw t (
      ap (λ g. join g (tree_of more l)) (tree_of_absent js l (omega (arith, once, here)))
      ∙ tree_of_Part w more l c ks rest n (omega (arith, once)) p)

  begins_with : (g : Forest C) (l : ℕ) → 0 < times (tops g) l → (k : ℕ) × (first_in (tops g) ≡ Some k)
  begins_with Nil l h = absurd (omega (arith, h))
  begins_with (Tree m c ks rest) l h = (m, refl)

module _ {C : Type 0} (f : Forest C) (once : IsDistinct f) where
  -- after a child comes at least what comes after its parent
  total_after-parent : (w : ℕ → C → ℕ) (l p : ℕ) → parent_of f l ≡ Some p → total_after w f p ≤ total_after w f l
  total_after-parent w l p child =
      let a = at_label f once p (parent_count f l p once child).1 in
      let part = a.parts w in
      let r = child_of_parent f l p once child in
      let own : r.0.children ≡ tops a.kids = sym (ap (λ (o : Option (Seen C)). option_map_or (λ s. s.children) o []) r.2) ∙ a.children_is in
      let among : 0 < times (tops a.kids) l = subst (λ xs. 0 < times xs l) own r.3 in
      let b = begins_with a.kids l among in
      let kids = Part-kids w f p a.content a.kids a.rest part.0 b.0 b.1 part.1 in
      let s = Part-sibling w f a.kids (total w a.rest + part.0) l kids among in
      omega (arith, total_after_Part w f l s.0 s.1 s.2 (total w a.rest + part.0) (once l) s.3, total_after_Part w f p a.content a.kids a.rest part.0 (once p) part.1)

  within_after_at : (w : ℕ → C → ℕ) (top : ℕ) → 0 < count_of f top → (k l : ℕ) → depth_of f l ≡ k → IsWithin f top l → total_after w f top ≤ total_after w f l
  within_after_at w top here zero l deep h = elim (eqb_tells top l) [
    | inl (_, is) ↦ omega (arith, ap (total_after w f) is)
    | inr (_, off) ↦ absurd (let p = within_parent f top once here l off h in omega (arith, deep, depth_of-parent f l p.0 once p.1))
  ]
  within_after_at w top here (suc k) l deep h = elim (eqb_tells top l) [
    | inl (_, is) ↦ omega (arith, ap (total_after w f) is)
    | inr (_, off) ↦ (
        let p = within_parent f top once here l off h in
        let up = within_after_at w top here k p.0 (omega (arith, deep, depth_of-parent f l p.0 once p.1)) p.2 in
        omega (arith, up, total_after-parent w l p.0 p.1))
  ]

  -- after a node of a tree comes at least what comes after the tree
  pub within_after : (w : ℕ → C → ℕ) (top l : ℕ) → 0 < count_of f top → IsWithin f top l → total_after w f top ≤ total_after w f l
  within_after w top l here h = within_after_at w top here (depth_of f l) l refl h

  -- from a node on there are its tree and what comes after it
  pub tree_total : (w : ℕ → C → ℕ) (l : ℕ) → 0 < count_of f l → total_from w f l ≡ total w (tree_of f l) + total_after w f l
  tree_total w l here =
      let a = at_label f once l here in
      let p = a.parts w in
      omega (arith, total_from_Part w f l a.content a.kids a.rest p.0 (once l) p.1, total_after_Part w f l a.content a.kids a.rest p.0 (once l) p.1, ap (total w) (tree_of_Part w f l a.content a.kids a.rest p.0 (once l) p.1))

  -- from a node on there are at least its own share and what comes after its tree
  pub own_share : (w : ℕ → C → ℕ) (l : ℕ) (c : C) → 0 < count_of f l → content_of f l ≡ Some c → w l c + total_after w f l ≤ total_from w f l
  own_share w l c here e =
      let a = at_label f once l here in
      let p = a.parts w in
      let same : a.content ≡ c = (let t = sym a.content_is ∙ e in cc) in
      omega (arith, total_from_Part w f l a.content a.kids a.rest p.0 (once l) p.1, total_after_Part w f l a.content a.kids a.rest p.0 (once l) p.1, ap (w l) same)

  within_deep_at : (top : ℕ) → 0 < count_of f top → (k l : ℕ) → depth_of f l ≡ k → IsWithin f top l → depth_of f top ≤ depth_of f l
  within_deep_at top here zero l deep h = elim (eqb_tells top l) [
    | inl (_, is) ↦ omega (arith, ap (depth_of f) is)
    | inr (_, off) ↦ absurd (let p = within_parent f top once here l off h in omega (arith, deep, depth_of-parent f l p.0 once p.1))
  ]
  within_deep_at top here (suc k) l deep h = elim (eqb_tells top l) [
    | inl (_, is) ↦ omega (arith, ap (depth_of f) is)
    | inr (_, off) ↦ (
        let p = within_parent f top once here l off h in
        let up = within_deep_at top here k p.0 (omega (arith, deep, depth_of-parent f l p.0 once p.1)) p.2 in
        omega (arith, up, depth_of-parent f l p.0 once p.1))
  ]

  -- a node of a tree is as deep as its root or deeper
  within_deep : (top l : ℕ) → 0 < count_of f top → IsWithin f top l → depth_of f top ≤ depth_of f l
  within_deep top l here h = within_deep_at top here (depth_of f l) l refl h

module _ (s : ArenaState) (law : IsValid s) (top : NodeRef) (top_held : Holds s top) where
  abbrev f : Forest Content
  f = s.trees

  here : (r : NodeRef) → Holds s r → 0 < count_of f r.label
  here r h = law.here r.slot r.label h

  abbrev root : Place
  root = record { node = top; depth = 0 }

  pub top_in : IsIn s top root
  top_in = record { held = top_held; inside = within_self f top.label law.distinct (here top top_held); deep = omega arith }

  pub next_in : (at : Place) (next : NodeRef) → IsIn s top at → top.label ≢ at.node.label → next_of f at.node.label ≡ Some next.label → Holds s next → IsIn s top (record { node = next; depth = at.depth })
  next_in at next place off is h =
      let p = within_parent f top.label law.distinct (here top top_held) at.node.label off place.inside in
      let own = parent_of-next f law.distinct at.node.label next.label p.0 p.1 is in
      record {
        held = h;
        inside = within_child f top.label law.distinct (here top top_held) next.label p.0 own p.2;
        deep = omega (arith, place.deep, depth_of-parent f at.node.label p.0 law.distinct p.1, depth_of-parent f next.label p.0 law.distinct own);
      }

  pub next_after : (at : Place) (next : NodeRef) → IsIn s top at → top.label ≢ at.node.label → next_of f at.node.label ≡ Some next.label → (w : ℕ → Content → ℕ) → total_after w f at.node.label ≡ total_from w f next.label
  next_after at next place off is w =
      let p = within_parent f top.label law.distinct (here top top_held) at.node.label off place.inside in
      total_after-next f law.distinct w at.node.label next.label p.0 p.1 is

  -- below the root of the walk
  pub parent_deep : (at : Place) (parent : NodeRef) → IsIn s top at → top.label ≢ at.node.label → parent_of f at.node.label ≡ Some parent.label → 0 < at.depth
  parent_deep at parent place off is =
      let up = within_step f top.label law.distinct (here top top_held) at.node.label parent.label off is place.inside in
      omega (arith, place.deep, depth_of-parent f at.node.label parent.label law.distinct is, within_deep f law.distinct top.label parent.label (here top top_held) up)

  pub parent_in : (at : Place) (parent : NodeRef) → IsIn s top at → top.label ≢ at.node.label → parent_of f at.node.label ≡ Some parent.label → Holds s parent → IsIn s top (record { node = parent; depth = at.depth - 1 })
  parent_in at parent place off is h = record {
    held = h;
    inside = within_step f top.label law.distinct (here top top_held) at.node.label parent.label off is place.inside;
    deep = omega (arith, place.deep, parent_deep at parent place off is, depth_of-parent f at.node.label parent.label law.distinct is);
  }

  pub no_parent : (at : Place) → IsIn s top at → top.label ≢ at.node.label → parent_of f at.node.label ≡ None → ⊥
  no_parent at place off root = within_root f top.label law.distinct (here top top_held) at.node.label off root place.inside

  pub child_in : (at : Place) (child : NodeRef) → IsIn s top at → first_of f at.node.label ≡ Some child.label → Holds s child → IsIn s top (record { node = child; depth = at.depth + 1 })
  child_in at child place first h =
      let own = parent_of-first f law.distinct at.node.label child.label first in
      record {
        held = h;
        inside = within_child f top.label law.distinct (here top top_held) child.label at.node.label own place.inside;
        deep = omega (arith, place.deep, depth_of-parent f child.label at.node.label law.distinct own);
      }

  pub child_low : (at : Place) (child : NodeRef) → IsIn s top at → first_of f at.node.label ≡ Some child.label → Holds s child → at.depth + 1 < 2 ^ 32
  child_low at child place first h =
      omega (arith, (child_in at child place first h).deep, depth_of_low f child.label law.distinct (here child h), law.few, law.capped, law.small)

  pub goes_down : (at : Place) (child : NodeRef) → IsIn s top at → first_of f at.node.label ≡ Some child.label → Holds s child → Goes s top at (record { node = child; depth = at.depth + 1 })
  goes_down at child place first h = record {
    place = child_in at child place first h;
    weighs = λ w c e. total_from-first f law.distinct w at.node.label child.label c (here at.node place.held) e first;
  }

  pub goes_on : (at next : Place) → IsIn s top at → first_of f at.node.label ≡ None → IsIn s top next → ((w : ℕ → Content → ℕ) → total_after w f at.node.label ≡ total_from w f next.node.label) → Goes s top at next
  goes_on at next place leaf after same = record {
    place = after;
    weighs = λ w c e. total_from-leaf f law.distinct w at.node.label c (here at.node place.held) e leaf ∙ ap (λ n. w at.node.label c + n) (same w);
  }

  pub stops : (at : Place) → IsIn s top at → first_of f at.node.label ≡ None → ((w : ℕ → Content → ℕ) → total_after w f at.node.label ≡ total_after w f top.label) → Stops s top at
  stops at place leaf same = record {
    weighs = λ w c e. total_from-leaf f law.distinct w at.node.label c (here at.node place.held) e leaf ∙ ap (λ n. w at.node.label c + n) (same w);
  }

  pub content : (at : Place) → IsIn s top at → (c : Content) × (content_of f at.node.label ≡ Some c)
  content at place = (let r = seen f at.node.label law.distinct (here at.node place.held) in (r.0.content, ap (option_map (λ (x : Seen Content). x.content)) r.2))

  pub falls : (at next : Place) → IsIn s top at → Goes s top at next → total_from (λ _ _. 1) f next.node.label < total_from (λ _ _. 1) f at.node.label
  falls at next place goes = (let c = content at place in omega (arith, goes.weighs (λ _ _. 1) c.0 c.1))

  pub node_next : (count : ℕ) (at next : Place) → IsIn s top at → Goes s top at next → count + total_from (λ _ _. 1) f at.node.label ≡ 1 + total_from (λ _ _. 1) f top.label → (count + 1 < 2 ^ 32) × (count + 1 + total_from (λ _ _. 1) f next.node.label ≡ 1 + total_from (λ _ _. 1) f top.label)
  node_next count at next place goes sum =
      let c = content at place in
      let d = content next goes.place in
      let step = goes.weighs (λ _ _. 1) c.0 c.1 in
      let own = own_share f law.distinct (λ _ _. 1) next.node.label d.0 (here next.node goes.place.held) d.1 in
      (omega (arith, step, own, sum, total_from_le (λ _ _. 1) f top.label, law.few, law.capped, law.small), omega (arith, step, sum))

  pub node_last : (count : ℕ) (at : Place) → IsIn s top at → Stops s top at → count + total_from (λ _ _. 1) f at.node.label ≡ 1 + total_from (λ _ _. 1) f top.label → count ≡ total (λ _ _. 1) (tree_of f top.label)
  node_last count at place stop sum =
      let c = content at place in
      omega (arith, stop.weighs (λ _ _. 1) c.0 c.1, sum, tree_total f law.distinct (λ _ _. 1) top.label (here top top_held))

  abbrev chars : ℕ → Content → ℕ
  chars = λ _ c. words_length c

  words_few : (c : Content) → words_length c ≤ char_length c
  words_few Document = omega arith
  words_few (Element name attributes) = omega arith
  words_few (Words w) = omega arith
  words_few (Remark w) = omega arith

  chars_bound : total chars f < 2 ^ 64
  chars_bound =
      let low = total-bound chars 4294967295 f law.distinct (λ l r e. omega (arith, words_few r.content, (law.nodes l r e).short)) in
      omega (arith, low, law.few, law.capped, law.small)

  pub shared : (at : Place) (c : Content) → content_of f at.node.label ≡ Some c → option_map_or words_length (content_of f at.node.label) 0 ≡ words_length c
  shared at c e = ap (λ o. option_map_or words_length o 0) e

  pub chars_next : (count : ℕ) (at next : Place) (d : Content) → IsIn s top at → Goes s top at next → content_of f next.node.label ≡ Some d → count + total_from chars f at.node.label ≡ option_map_or words_length (content_of f at.node.label) 0 + total_from chars f top.label
      → (count + words_length d < 2 ^ 64) × (count + words_length d + total_from chars f next.node.label ≡ option_map_or words_length (content_of f next.node.label) 0 + total_from chars f top.label)
  chars_next count at next d place goes e sum =
      let c = content at place in
      let step = goes.weighs chars c.0 c.1 in
      let own = own_share f law.distinct chars next.node.label d (here next.node goes.place.held) e in
      (omega (arith, step, own, sum, shared at c.0 c.1, total_from_le chars f top.label, chars_bound), omega (arith, step, sum, shared at c.0 c.1, shared next d e))

  pub chars_last : (count : ℕ) (at : Place) → IsIn s top at → Stops s top at → count + total_from chars f at.node.label ≡ option_map_or words_length (content_of f at.node.label) 0 + total_from chars f top.label → count ≡ total (λ _ c. words_length c) (tree_of f top.label)
  chars_last count at place stop sum =
      let c = content at place in
      omega (arith, stop.weighs chars c.0 c.1, sum, shared at c.0 c.1, tree_total f law.distinct chars top.label (here top top_held))

  -- ---- the deepest node

  abbrev one_of : ℕ → ℕ → Content → ℕ
  one_of x m c = cond (eqb m x) 1 0

  -- each node of the tree that doesn't come after the place is no deeper, and some node is as deep
  abbrev pub High : Place → ℕ → Type 0
  High at depth = (x : ℕ) → IsWithin f top.label x → total_from (λ m _. cond (eqb m x) 1 0) f at.node.label ≤ cond (eqb at.node.label x) 1 0 + total_after (λ m _. cond (eqb m x) 1 0) f top.label → depth_of f x ≤ depth + depth_of f top.label

  abbrev pub Reached : ℕ → Type 0
  Reached depth = (x : ℕ) × IsWithin f top.label x × (depth_of f x ≡ depth + depth_of f top.label)

  pub high_first : High root 0
  high_first x inside low = elim (eqb_tells top.label x) [
    | inl (_, same) ↦ omega (arith, ap (depth_of f) same)
    | inr (t, _) ↦ absurd (
        let low' = rw t at low in
        omega (arith, low', tree_total f law.distinct (one_of x) top.label (here top top_held), inside))
  ]

  pub reached_first : Reached 0
  reached_first = (top.label, top_in.inside, omega arith)

  pub high_next : (depth : ℕ) (at next : Place) → IsIn s top at → Goes s top at next → High at depth → High next (max depth next.depth)
  high_next depth at next place goes high x inside low = elim (eqb_tells next.node.label x) [
    | inl (_, same) ↦ (let e = ap (depth_of f) same in omega (arith, e, goes.place.deep))
    | inr (t, _) ↦ (
        let c = content at place in
        let low' = rw t at low in
        let h = high x inside (omega (arith, low', goes.weighs (one_of x) c.0 c.1)) in
        omega (arith, h))
  ]

  pub reached_next : (depth : ℕ) (next : Place) → IsIn s top next → Reached depth → Reached (max depth next.depth)
  reached_next depth next place r = elim (which depth next.depth) [
    | inl e ↦ (r.0, r.1, r.2 ∙ ap (λ k. k + depth_of f top.label) (sym e))
    | inr e ↦ (next.node.label, place.inside, sym place.deep ∙ ap (λ k. k + depth_of f top.label) (sym e))
  ]
    where
      which : (i j : ℕ) → (max i j ≡ i) ⊎ (max i j ≡ j)
      which i j = grind arith

  pub depth_last : (depth : ℕ) (at : Place) → IsIn s top at → Stops s top at → High at depth → Reached depth → levels (tree_of f top.label) ≡ depth + 1
  depth_last depth at place stop high r =
      let c = content at place in
      let all : (x : ℕ) → IsWithin f top.label x → depth_of f x ≤ depth + depth_of f top.label = λ x inside. high x inside (omega (arith, stop.weighs (one_of x) c.0 c.1)) in
      height_is f top.label depth r.0 law.distinct all r.1 r.2
