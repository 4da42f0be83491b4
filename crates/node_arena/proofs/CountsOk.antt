-- The walk over the document.
use Rattle.std.proofs.Common.{◌≡◌, ◌≢◌, ◌⊎◌, ℕ, ◌+◌, ◌-◌, ◌^◌, ◌<◌, ◌≤◌, max, cond, Some, None, sym, ap, subst, ◌∙◌, inl, inr, arith, eqb}
use Rattle.std.proofs.lemmas.Bool.Decides.{eqb_tells}
use Rattle.std.specs.Option.{option_map, option_map_or}
use Rattle.dom_model.specs.declared.Content.{Content}
use Rattle.dom_model.specs.declared.Content.TheVariants.{Document, Element, Words, Remark}
use Rattle.dom_model.specs.Contents.{words_length, char_length}
use Rattle.dom_model.specs.Document.{node_count, char_count, page_depth}
use Rattle.dom_model.specs.ArenaState.{ArenaState, IsValid}
use Rattle.dom_model.specs.Forest.{Forest, Seen, total, count_of, parent_of, first_of, next_of, content_of, depth_of, tree_of, IsWithin}
use Rattle.dom_model.specs.Forest.Forest.{Tree}
use Rattle.dom_model.specs.TreeOrder.{total_from, total_after}
use Rattle.dom_model.proofs.Links.{seen}
use Rattle.dom_model.proofs.Within.{within_self, within_child, within_step, within_root, depth_of-parent, depth_of-root}
use Rattle.dom_model.proofs.Neighbours.{parent_of-first, parent_of-next}
use Rattle.dom_model.proofs.Parts.{at_label, total_from_Part}
use Rattle.dom_model.proofs.Walks.{total_from-first, total_from-leaf, document_first, total_from_le, total_after_document, total_from_whole}
use Rattle.dom_model.proofs.Deepest.{total-bound, deepest_is}
use Rattle.node_arena.specs.declared.NodeRef.{NodeRef}
use Rattle.node_arena.specs.declared.counts.Place.{Place}
use Rattle.node_arena.specs.Held.{Holds}
use Rattle.node_arena.specs.Walk.{IsPlace, Goes, Stops}

module _ (s : ArenaState) (law : IsValid s) where
  abbrev f : Forest Content
  f = s.trees

  here : (r : NodeRef) → Holds s r → 0 < count_of f r.label
  here r h = law.here r.slot r.label h

  pub root_place : (r : NodeRef) → r.label ≡ 0 → Holds s r → IsPlace s (record { node = r; depth = 0 })
  root_place r is h = record {
    held = h;
    inside = subst (λ k. IsWithin f 0 k) (sym is) (within_self f 0 law.distinct law.document);
    deep = sym (ap (depth_of f) is ∙ depth_of-root f 0 law.distinct law.document law.root);
  }

  -- a place with a parent isn't the document
  below_root : (l p : ℕ) → parent_of f l ≡ Some p → 0 ≢ l
  below_root l p child is = (let t : None ≡ Some p = sym law.root ∙ (ap (parent_of f) is ∙ child) in cc)

  pub sibling_place : (at : Place) (parent next : NodeRef) → IsPlace s at → parent_of f at.node.label ≡ Some parent.label → next_of f at.node.label ≡ Some next.label → Holds s next → IsPlace s (record { node = next; depth = at.depth })
  sibling_place at parent next place child is h =
      let child' = parent_of-next f law.distinct at.node.label next.label parent.label child is in
      record {
        held = h;
        inside = within_child f 0 law.distinct law.document next.label parent.label child' (within_step f 0 law.distinct law.document at.node.label parent.label (below_root at.node.label parent.label child) child place.inside);
        deep = omega (arith, place.deep, depth_of-parent f at.node.label parent.label law.distinct child, depth_of-parent f next.label parent.label law.distinct child');
      }

  pub parent_place : (at : Place) (parent : NodeRef) → IsPlace s at → parent_of f at.node.label ≡ Some parent.label → Holds s parent → IsPlace s (record { node = parent; depth = at.depth - 1 })
  parent_place at parent place child h = record {
    held = h;
    inside = within_step f 0 law.distinct law.document at.node.label parent.label (below_root at.node.label parent.label child) child place.inside;
    deep = omega (arith, place.deep, depth_of-parent f at.node.label parent.label law.distinct child);
  }

  pub child_place : (at : Place) (child : NodeRef) → IsPlace s at → first_of f at.node.label ≡ Some child.label → Holds s child → IsPlace s (record { node = child; depth = at.depth + 1 })
  child_place at child place first h =
      let own = parent_of-first f law.distinct at.node.label child.label first in
      record {
        held = h;
        inside = within_child f 0 law.distinct law.document child.label at.node.label own place.inside;
        deep = omega (arith, place.deep, depth_of-parent f child.label at.node.label law.distinct own);
      }

  -- a place without a parent is the document
  pub root_label : (at : Place) → IsPlace s at → parent_of f at.node.label ≡ None → at.node.label ≡ 0
  root_label at place root = elim (eqb_tells 0 at.node.label) [
    | inl (_, is) ↦ sym is
    | inr (_, off) ↦ absurd (within_root f 0 law.distinct law.document at.node.label off root place.inside)
  ]

  pub goes_down : (at : Place) (child : NodeRef) → IsPlace s at → first_of f at.node.label ≡ Some child.label → Holds s child → Goes s at (record { node = child; depth = at.depth + 1 })
  goes_down at child place first h = record {
    place = child_place at child place first h;
    weighs = λ w c e. total_from-first f law.distinct w at.node.label child.label c (here at.node place.held) e first;
  }

  pub goes_on : (at next : Place) → IsPlace s at → first_of f at.node.label ≡ None → IsPlace s next → ((w : ℕ → Content → ℕ) → total_after w f at.node.label ≡ total_from w f next.node.label) → Goes s at next
  goes_on at next place leaf after same = record {
    place = after;
    weighs = λ w c e. total_from-leaf f law.distinct w at.node.label c (here at.node place.held) e leaf ∙ ap (λ n. w at.node.label c + n) (same w);
  }

  pub stops : (at : Place) → IsPlace s at → first_of f at.node.label ≡ None → ((w : ℕ → Content → ℕ) → total_after w f at.node.label ≡ total_after w f 0) → Stops s at
  stops at place leaf same = record {
    weighs = λ w c e. total_from-leaf f law.distinct w at.node.label c (here at.node place.held) e leaf ∙ ap (λ n. w at.node.label c + n) (same w);
  }

  -- ---- the counts

  document : (c : Content) × (ks : Forest Content) × (rest : Forest Content) × (f ≡ Tree 0 c ks rest)
  document = document_first f law.distinct law.rising law.document law.root

  pub from_document : (w : ℕ → Content → ℕ) → total_from w f 0 ≡ total w (tree_of f 0) + total_after w f 0
  from_document w = (let d = document in total_after_document f d.0 d.1 d.2 d.3 w)

  content : (at : Place) → IsPlace s at → (c : Content) × (content_of f at.node.label ≡ Some c)
  content at place = (let r = seen f at.node.label law.distinct (here at.node place.held) in (r.0.content, ap (option_map (λ (x : Seen Content). x.content)) r.2))

  -- from a place on there is at least that place
  own_share : (w : ℕ → Content → ℕ) (at : Place) (c : Content) → IsPlace s at → content_of f at.node.label ≡ Some c → w at.node.label c ≤ total_from w f at.node.label
  own_share w at c place e =
      let a = at_label f law.distinct at.node.label (here at.node place.held) in
      let p = a.parts w in
      let same : a.content ≡ c = (let t = sym a.content_is ∙ e in cc) in
      omega (arith, total_from_Part w f at.node.label a.content a.kids a.rest p.0 (law.distinct at.node.label) p.1, ap (w at.node.label) same)

  pub falls : (at next : Place) → IsPlace s at → Goes s at next → total_from (λ _ _. 1) f next.node.label < total_from (λ _ _. 1) f at.node.label
  falls at next place goes = (let c = content at place in omega (arith, goes.weighs (λ _ _. 1) c.0 c.1))

  pub node_next : (count : ℕ) (at next : Place) → IsPlace s at → Goes s at next → count + total_from (λ _ _. 1) f at.node.label ≡ 1 + total_from (λ _ _. 1) f 0 → (count + 1 < 2 ^ 32) × (count + 1 + total_from (λ _ _. 1) f next.node.label ≡ 1 + total_from (λ _ _. 1) f 0)
  node_next count at next place goes sum =
      let c = content at place in
      let d = content next goes.place in
      let step = goes.weighs (λ _ _. 1) c.0 c.1 in
      let own = own_share (λ _ _. 1) next d.0 goes.place d.1 in
      (omega (arith, step, own, sum, total_from_le (λ _ _. 1) f 0, law.few, law.capped, law.small), omega (arith, step, sum))

  pub node_last : (count : ℕ) (at : Place) → IsPlace s at → Stops s at → count + total_from (λ _ _. 1) f at.node.label ≡ 1 + total_from (λ _ _. 1) f 0 → count ≡ node_count f
  node_last count at place stop sum =
      let c = content at place in
      omega (arith, stop.weighs (λ _ _. 1) c.0 c.1, sum, from_document (λ _ _. 1))

  abbrev chars : ℕ → Content → ℕ
  chars = λ _ c. words_length c

  words_few : (c : Content) → words_length c ≤ char_length c
  words_few Document = omega arith
  words_few (Element name attributes) = omega arith
  words_few (Words w) = omega arith
  words_few (Remark w) = omega arith

  chars_bound : total chars f < 2 ^ 64
  chars_bound =
      let low = total-bound chars 4294967295 f law.distinct (λ l r e. omega (arith, words_few r.content, (law.nodes l r e).short)) in
      omega (arith, low, law.few, law.capped, law.small)

  shared : (at : Place) (c : Content) → content_of f at.node.label ≡ Some c → option_map_or words_length (content_of f at.node.label) 0 ≡ words_length c
  shared at c e = ap (λ o. option_map_or words_length o 0) e

  pub chars_next : (count : ℕ) (at next : Place) (d : Content) → IsPlace s at → Goes s at next → content_of f next.node.label ≡ Some d → count + total_from chars f at.node.label ≡ option_map_or words_length (content_of f at.node.label) 0 + total_from chars f 0
      → (count + words_length d < 2 ^ 64) × (count + words_length d + total_from chars f next.node.label ≡ option_map_or words_length (content_of f next.node.label) 0 + total_from chars f 0)
  chars_next count at next d place goes e sum =
      let c = content at place in
      let step = goes.weighs chars c.0 c.1 in
      let own = own_share chars next d goes.place e in
      (omega (arith, step, own, sum, shared at c.0 c.1, total_from_le chars f 0, chars_bound), omega (arith, step, sum, shared at c.0 c.1, shared next d e))

  pub chars_last : (count : ℕ) (at : Place) → IsPlace s at → Stops s at → count + total_from chars f at.node.label ≡ option_map_or words_length (content_of f at.node.label) 0 + total_from chars f 0 → count ≡ char_count f
  chars_last count at place stop sum =
      let c = content at place in
      omega (arith, stop.weighs chars c.0 c.1, sum, shared at c.0 c.1, from_document chars)

  -- ---- the deepest node

  abbrev one_of : ℕ → ℕ → Content → ℕ
  one_of x m c = cond (eqb m x) 1 0

  -- each node that doesn't come after the place is no deeper, and some node is as deep
  abbrev pub High : Place → ℕ → Type 0
  High at deepest = (x : ℕ) → 0 < count_of (tree_of f 0) x → total_from (λ m _. cond (eqb m x) 1 0) f at.node.label ≤ cond (eqb at.node.label x) 1 0 → depth_of f x ≤ deepest

  abbrev pub Reached : ℕ → Type 0
  Reached deepest = (x : ℕ) × (0 < count_of (tree_of f 0) x) × (depth_of f x ≡ deepest)

  pub high_first : (at : Place) → at.node.label ≡ 0 → High at 0
  high_first at is x inside low = elim (eqb_tells 0 x) [
    | inl (_, same) ↦ (let zero_deep = depth_of-root f 0 law.distinct law.document law.root in let e = ap (depth_of f) same in omega (arith, zero_deep, e))
    | inr (t, _) ↦ absurd (
        let low' = subst (λ k. total_from (one_of x) f k ≤ cond (eqb k x) 1 0) is low in
        let low2 = rw t at low' in
        omega (arith, low2, from_document (one_of x), inside))
  ]

  pub reached_first : Reached 0
  reached_first = (0, within_self f 0 law.distinct law.document, depth_of-root f 0 law.distinct law.document law.root)

  pub high_next : (deepest : ℕ) (at next : Place) → IsPlace s at → Goes s at next → High at deepest → High next (max deepest next.depth)
  high_next deepest at next place goes high x inside low = elim (eqb_tells next.node.label x) [
    | inl (_, same) ↦ (let e = ap (depth_of f) same in omega (arith, e, goes.place.deep))
    | inr (t, _) ↦ (
        let c = content at place in
        let low' = rw t at low in
        let h = high x inside (omega (arith, low', goes.weighs (one_of x) c.0 c.1)) in
        omega (arith, h))
  ]

  pub reached_next : (deepest : ℕ) (next : Place) → IsPlace s next → Reached deepest → Reached (max deepest next.depth)
  reached_next deepest next place r = elim (which deepest next.depth) [
    | inl e ↦ (r.0, r.1, r.2 ∙ sym e)
    | inr e ↦ (next.node.label, place.inside, sym place.deep ∙ sym e)
  ]
    where
      which : (i j : ℕ) → (max i j ≡ i) ⊎ (max i j ≡ j)
      which i j = grind arith

  pub deepest_last : (deepest : ℕ) (at : Place) → IsPlace s at → Stops s at → High at deepest → Reached deepest → deepest ≡ page_depth f
  deepest_last deepest at place stop high r =
      let d = document in
      let c = content at place in
      let all : (x : ℕ) → 0 < count_of (tree_of f 0) x → depth_of f x ≤ deepest = λ x inside. high x inside (omega (arith, stop.weighs (one_of x) c.0 c.1, after_none x inside)) in
      sym (deepest_is f d.0 d.1 d.2 deepest r.0 d.3 law.distinct all r.1 r.2)
    where
      -- no node of the document comes after it
      after_none : (x : ℕ) → 0 < count_of (tree_of f 0) x → total_after (one_of x) f 0 ≡ 0
      after_none x inside =
          let d = document_first f law.distinct law.rising law.document law.root in
          omega (arith, from_document (one_of x), total_from_whole f d.0 d.1 d.2 d.3 (one_of x), law.distinct x, inside)
