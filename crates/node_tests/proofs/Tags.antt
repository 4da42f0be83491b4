-- The starts and ends of nodes that come after a place. A forest is written as the starts and ends of its nodes, two for
-- each node, and a place lies between two of these.
use Rattle.std.proofs.Common.{◌≡◌, ℕ, ◌+◌, ◌*◌, ◌-◌, ◌<◌, ◌≤◌, Option, Some, None, refl, sym, ap, ◌∙◌, inl, inr, arith}
use Rattle.std.specs.Option.{option_map_or}
use Rattle.std.proofs.lemmas.Bool.Decides.{eqb_tells}
use Rattle.node_styles.specs.DomModel.declared.Content.{Content}
use Rattle.node_styles.specs.DomModel.Forest.{Forest, either, count_of, IsDistinct, parent_of, first_of, last_of, next_of, depth_from, depth_of}
use Rattle.node_styles.specs.DomModel.Forest.Forest.{Nil, Tree}
use Rattle.node_styles.specs.DomModel.TreeOrder.{total_from, total_after}
use Rattle.node_styles.proofs.DomModel.Neighbours.{parent_of-first, parent_of-last, parent_of-next}
use Rattle.node_styles.proofs.DomModel.Walks.{total_from-first, total_after-next, total_after-last, total_from_le}
use Rattle.node_styles.proofs.DomModel.Within.{depth_absent, depth_of-parent}
use Rattle.node_tests.proofs.Around.{content_at}
use Rattle.node_tests.proofs.Inside.{nodes}
use Rattle.node_tests.proofs.Pieces.{has, hasnt}
use Rattle.node_styles.proofs.DomModel.Indexes.{index_of-first, index_of-last}
use Rattle.node_styles.proofs.DomModel.Links.{parent_count}
use Rattle.node_styles.proofs.DomModel.Parts.{at_label, total_from_Part, total_after_Part}
use Rattle.node_styles.specs.NodeArena.declared.NodeRef.{NodeRef}
use Rattle.node_styles.specs.NodeArena.Reads.{IsValid}
use Rattle.node_tests.specs.declared.sides.Side.{Side}
use Rattle.node_tests.specs.declared.sides.Side.TheVariants.{Before, After}
use Rattle.node_tests.specs.Sides.{other, sibling, near_child}
use Rattle.node_tests.proofs.Steps.{prev_next, sibling_parent}
use Rattle.node_tests.proofs.Turning.{first_index, last_index, first_prev}

-- how many come from the start of a node on, and how many after its end
abbrev pub from_start : Forest Content → ℕ → ℕ
from_start f l = 2 * total_from (λ _ _. 1) f l + depth_of f l

abbrev pub past_end : Forest Content → ℕ → ℕ
past_end f l = 2 * total_after (λ _ _. 1) f l + depth_of f l

either_none : (o : Option ℕ) → either o None ≡ o
either_none None = refl
either_none (Some x) = refl

-- a node's ancestors aren't among the nodes from it on
deep_at : (d : ℕ) (g : Forest Content) (l e : ℕ) → count_of g l ≤ 1 → depth_from d g l ≡ Some e → total_from (λ _ _. 1) g l + e ≤ nodes g + d
deep_at d Nil l e once is = absurd (let t = is in cc)
deep_at d (Tree m c ks rest) l e once is =
    elim (eqb_tells m l) [
      | inl (t, _) ↦ (
          let is' : Some d ≡ Some e = rw t at is in
          let same : d ≡ e = (let u = is' in cc) in
          rw t (omega (arith, same)))
      | inr (t, _) ↦ (
          let is' : either (depth_from (d + 1) ks l) (depth_from d rest l) ≡ Some e = rw t at is in
          let once' = rw t at once in
          elim (eqb_tells (count_of ks l) 0) [
            | inl (_, none) ↦ (
                let at : depth_from d rest l ≡ Some e = ap (λ o. either o (depth_from d rest l)) (sym (depth_absent (d + 1) ks l none)) ∙ is' in
                rw (t, hasnt (count_of ks l) none) (omega (arith, deep_at d rest l e (omega (arith, once')) at)))
            | inr (_, off) ↦ (
                let low : 0 < count_of ks l = omega (arith, off) in
                let none : count_of rest l ≡ 0 = omega (arith, once', low) in
                let at : depth_from (d + 1) ks l ≡ Some e = sym (either_none (depth_from (d + 1) ks l)) ∙ ap (either (depth_from (d + 1) ks l)) (sym (depth_absent d rest l none)) ∙ is' in
                rw (t, has (count_of ks l) low) (omega (arith, deep_at (d + 1) ks l e (omega (arith, once')) at)))
          ])
    ]

module _ (f : Forest Content) (once : IsDistinct f) where
  pub deep : (l : ℕ) → total_from (λ _ _. 1) f l + depth_of f l ≤ nodes f
  deep l = by_depth (depth_from 0 f l) refl
    where
      by_depth : (o : Option ℕ) → depth_from 0 f l ≡ o → total_from (λ _ _. 1) f l + depth_of f l ≤ nodes f
      by_depth None e = let none : depth_of f l ≡ 0 = ap (λ o. option_map_or (λ d. d) o 0) e in omega (arith, none, total_from_le (λ _ _. 1) f l)
      by_depth (Some d) e = let is : depth_of f l ≡ d = ap (λ o. option_map_or (λ d. d) o 0) e in omega (arith, is, deep_at 0 f l d (once l) e)

  pub start_low : (l : ℕ) → from_start f l ≤ 2 * nodes f
  start_low l = omega (arith, deep l)

  after_less : (l : ℕ) → 0 < count_of f l → total_after (λ _ _. 1) f l < total_from (λ _ _. 1) f l
  after_less l here =
      let a = at_label f once l here in
      let p = a.parts (λ _ _. 1) in
      omega (arith, total_from_Part (λ _ _. 1) f l a.content a.kids a.rest p.0 (once l) p.1, total_after_Part (λ _ _. 1) f l a.content a.kids a.rest p.0 (once l) p.1)

  -- a node ends after it starts
  pub own_end : (l : ℕ) → 0 < count_of f l → past_end f l + 1 < from_start f l
  own_end l here = omega (arith, after_less l here)

  pub first_start : (l k : ℕ) → 0 < count_of f l → first_of f l ≡ Some k → from_start f l ≡ from_start f k + 1
  first_start l k here first =
      let c = content_at f once l here in
      omega (arith, total_from-first f once (λ _ _. 1) l k c.0 here c.1 first, depth_of-parent f k l once (parent_of-first f once l k first))

  pub next_start : (l k p : ℕ) → parent_of f l ≡ Some p → next_of f l ≡ Some k → past_end f l ≡ from_start f k
  next_start l k p child next =
      omega (arith, total_after-next f once (λ _ _. 1) l k p child next, depth_of-parent f l p once child, depth_of-parent f k p once (parent_of-next f once l k p child next))

  pub last_end : (l p : ℕ) → parent_of f l ≡ Some p → next_of f l ≡ None → past_end f l ≡ past_end f p + 1
  last_end l p child last = omega (arith, total_after-last f once (λ _ _. 1) l p child last, depth_of-parent f l p once child)

-- ---- what a walk to a side has left

-- where it comes to a node, and where it leaves it
abbrev pub left_from : Side → Forest Content → ℕ → ℕ
left_from Before f l = 2 * nodes f - past_end f l
left_from After f l = from_start f l

abbrev pub left_past : Side → Forest Content → ℕ → ℕ
left_past Before f l = 2 * nodes f + 1 - from_start f l
left_past After f l = past_end f l + 1

-- where it stands in a node, by the child that comes next
abbrev pub left_in : Side → Forest Content → ℕ → Option ℕ → ℕ
left_in side f l None = left_past side f l
left_in side f l (Some k) = left_from side f k

module _ {holds : NodeRef → Type 0} {f : Forest Content} {upper : ℕ} (law : IsValid holds f upper) where
  pub last_alone : (k m : ℕ) → last_of f k ≡ Some m → next_of f m ≡ None
  last_alone k m last = last_index law m k (parent_of-last f law.distinct k m last) (index_of-last f law.distinct k m last)

  -- the first child that a walk meets has no sibling on the side that the walk comes from
  pub near_parent : (side : Side) (p k : ℕ) → near_child side f p ≡ Some k → parent_of f k ≡ Some p
  near_parent Before p k e = parent_of-last f law.distinct p k e
  near_parent After p k e = parent_of-first f law.distinct p k e

  pub near_alone : (side : Side) (p k : ℕ) → near_child side f p ≡ Some k → sibling (other side) f k ≡ None
  near_alone Before p k e = last_alone p k e
  near_alone After p k e = first_prev f law.distinct k p (near_parent After p k e) e

  pub past_less : (side : Side) (l : ℕ) → 0 < count_of f l → left_past side f l < left_from side f l
  past_less Before l here = omega (arith, own_end f law.distinct l here, start_low f law.distinct l)
  past_less After l here = omega (arith, own_end f law.distinct l here)

  pub child_less : (side : Side) (p k : ℕ) → 0 < count_of f p → near_child side f p ≡ Some k → left_from side f k < left_from side f p
  child_less Before p k here e =
      omega (arith, last_end f law.distinct k p (near_parent Before p k e) (last_alone p k e), own_end f law.distinct p here, start_low f law.distinct p)
  child_less After p k here e = omega (arith, first_start f law.distinct p k here e)

  sibling_less : (side : Side) (l k p : ℕ) → parent_of f l ≡ Some p → sibling side f l ≡ Some k → left_from side f k < left_past side f l
  sibling_less Before l k p child e =
      let n = prev_next f law.distinct l k p child e in
      omega (arith, next_start f law.distinct k l p n.0 n.1, start_low f law.distinct l)
  sibling_less After l k p child e = omega (arith, next_start f law.distinct l k p child e)

  parent_less : (side : Side) (l p : ℕ) → parent_of f l ≡ Some p → sibling side f l ≡ None → left_past side f p < left_past side f l
  parent_less Before l p child e =
      let first = first_index law l p child (index_of-first f law.distinct l e) in
      omega (arith, first_start f law.distinct p l (parent_count f l p law.distinct child).1 first, start_low f law.distinct p)
  parent_less After l p child e = omega (arith, last_end f law.distinct l p child e)

  -- a step into a node, on to a sibling, and out
  pub in_less : (side : Side) (l : ℕ) → 0 < count_of f l → left_in side f l (near_child side f l) < left_from side f l
  in_less side l here = by_child (near_child side f l) refl
    where
      by_child : (o : Option ℕ) → near_child side f l ≡ o → left_in side f l o < left_from side f l
      by_child None e = past_less side l here
      by_child (Some k) e = child_less side l k here e

  on_less : (side : Side) (l : ℕ) → left_in side f l (sibling side f l) ≤ left_past side f l
  on_less side l = by_sibling (sibling side f l) refl
    where
      by_sibling : (o : Option ℕ) → sibling side f l ≡ o → left_in side f l o ≤ left_past side f l
      by_sibling None e = omega arith
      by_sibling (Some k) e = let p = sibling_parent f law.distinct side l k e in omega (arith, sibling_less side l k p.0 p.1 e)

  pub out_less : (side : Side) (l p : ℕ) → parent_of f l ≡ Some p → left_in side f p (sibling side f l) < left_past side f l
  out_less side l p child = by_sibling (sibling side f l) refl
    where
      by_sibling : (o : Option ℕ) → sibling side f l ≡ o → left_in side f p o < left_past side f l
      by_sibling None e = parent_less side l p child e
      by_sibling (Some k) e = sibling_less side l k p child e

  -- past a node on to its sibling, and past the node above it
  pub over_less : (side : Side) (l : ℕ) → 0 < count_of f l → left_in side f l (sibling side f l) < left_from side f l
  over_less side l here = omega (arith, on_less side l, past_less side l here)

  pub up_less : (side : Side) (l p : ℕ) → parent_of f l ≡ Some p → sibling side f l ≡ None → left_in side f p (sibling side f p) < left_past side f l
  up_less side l p child none = omega (arith, on_less side p, parent_less side l p child none)
