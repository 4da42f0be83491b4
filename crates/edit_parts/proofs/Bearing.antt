-- Whether nodes bear something that commands keep, as a sum over them.
use Rattle.std.proofs.Common.{◌≡◌, ◌⊎◌, ℕ, ◌+◌, ◌<◌, ◌≤◌, Bool, true, false, not, ◌&&◌, List, [], ◌∷◌, ◌++◌, filter, Some, cond, refl, sym, ap, ◌∙◌, inl, inr, arith}
use Rattle.std.specs.Prelude.{if◌then◌else◌}
use Rattle.edit_model.specs.DomModel.declared.Content.{Content}
use Rattle.edit_model.specs.DomModel.ArenaState.{ArenaState, IsValid}
use Rattle.edit_model.specs.DomModel.Forest.{Forest, total, tree_of, content_of, count_of}
use Rattle.edit_model.specs.DomModel.Forest.Forest.{Nil, Tree}
use Rattle.edit_model.specs.DomModel.TreeOrder.{total_from, total_after}
use Rattle.edit_model.specs.Kept.{Leaf, has_no_kept_leaves, borne_by, is_empty, is_kept, kept_leaves, leaves}
use Rattle.edit_model.specs.NodeArena.declared.NodeRef.{NodeRef}
use Rattle.edit_model.specs.NodeArena.Held.{Holds}
use Rattle.edit_parts.specs.declared.trees.Place.{Place}
use Rattle.edit_parts.specs.Walk.{IsIn, Goes, Stops}
use Rattle.edit_parts.proofs.Below.{content, own_share, tree_total, within_after, top_in}

-- one for a node that bears something
abbrev pub weight : ℕ → Content → ℕ
weight l c = if is_empty (filter is_kept (borne_by l c)) then 0 else 1

pub weight_none : (l : ℕ) (c : Content) → is_empty (filter is_kept (borne_by l c)) ≡ true → weight l c ≡ 0
weight_none l c e = rw e refl

pub weight_some : (l : ℕ) (c : Content) → is_empty (filter is_kept (borne_by l c)) ≡ false → weight l c ≡ 1
weight_some l c e = rw e refl

empty_append : (xs ys : List Leaf) → is_empty (filter is_kept (xs ++ ys)) ≡ (is_empty (filter is_kept xs) && is_empty (filter is_kept ys))
empty_append [] ys = refl
empty_append (x ∷ xs) ys = by (is_kept x) (empty_append xs ys)
  where
    by : (b : Bool) → is_empty (filter is_kept (xs ++ ys)) ≡ (is_empty (filter is_kept xs) && is_empty (filter is_kept ys))
        → is_empty (cond b (x ∷ filter is_kept (xs ++ ys)) (filter is_kept (xs ++ ys))) ≡ (is_empty (cond b (x ∷ filter is_kept xs) (filter is_kept xs)) && is_empty (filter is_kept ys))
    by true e = refl
    by false e = e

-- an empty sum, and one that isn't
abbrev Tells : ℕ → Bool → Type 0
Tells n b = ((n ≡ 0) × (b ≡ true)) ⊎ ((0 < n) × (b ≡ false))

both : (m n : ℕ) (a b : Bool) → Tells m a → Tells n b → Tells (m + n) (a && b)
both m n a b (inl (e, t)) (inl (e', t')) = inl (omega (arith, e, e'), rw (t, t') refl)
both m n a b (inl (e, t)) (inr (h, t')) = inr (omega (arith, e, h), rw (t, t') refl)
both m n a b (inr (h, t)) q = inr (omega (arith, h), rw t refl)

own_tells : (l : ℕ) (c : Content) → Tells (weight l c) (is_empty (filter is_kept (borne_by l c)))
own_tells l c = by (is_empty (filter is_kept (borne_by l c)))
  where
    by : (b : Bool) → Tells (if b then 0 else 1) b
    by true = inl (refl, refl)
    by false = inr (omega arith, refl)

sum_tells : (g : Forest Content) → Tells (total weight g) (is_empty (filter is_kept (leaves g)))
unfolding leaves
sum_tells Nil = inl (refl, refl)
sum_tells (Tree l c ks rest) =
    rw (empty_append (borne_by l c) (leaves ks ++ leaves rest), empty_append (leaves ks) (leaves rest))
    (both (weight l c) (total weight ks + total weight rest) _ _ (own_tells l c) (both (total weight ks) (total weight rest) _ _ (sum_tells ks) (sum_tells rest)))

pub none_in : (g : Forest Content) → total weight g ≡ 0 → true ≡ has_no_kept_leaves g
unfolding has_no_kept_leaves kept_leaves
none_in g e = elim (sum_tells g) [ inl (_, t) ↦ sym t | inr (h, _) ↦ absurd (omega (arith, e, h)) ]

pub some_in : (g : Forest Content) → 0 < total weight g → false ≡ has_no_kept_leaves g
unfolding has_no_kept_leaves kept_leaves
some_in g h = elim (sum_tells g) [ inl (e, _) ↦ absurd (omega (arith, e, h)) | inr (_, t) ↦ sym t ]

module _ (s : ArenaState) (law : IsValid s) (top : NodeRef) (top_held : Holds s top) where
  -- a node of the tree bears something
  pub bearing : (at : Place) (c : Content) → IsIn s top at → content_of s.trees at.node.label ≡ Some c → weight at.node.label c ≡ 1 → total_from weight s.trees at.node.label ≡ total_from weight s.trees top.label → false ≡ has_no_kept_leaves (tree_of s.trees top.label)
  bearing at c place e one same =
      let f = s.trees in
      let there = law.here at.node.slot at.node.label place.held in
      let top_there = law.here top.slot top.label top_held in
      some_in (tree_of f top.label) (omega (arith, one, same, own_share f law.distinct weight at.node.label c there e, within_after f law.distinct weight top.label at.node.label top_there place.inside, tree_total f law.distinct weight top.label top_there))

  -- no node of the tree bears anything
  pub bearing_none : (at : Place) → IsIn s top at → Stops s top at → ((c : Content) → content_of s.trees at.node.label ≡ Some c → weight at.node.label c ≡ 0) → total_from weight s.trees at.node.label ≡ total_from weight s.trees top.label → true ≡ has_no_kept_leaves (tree_of s.trees top.label)
  bearing_none at place stop none same =
      let f = s.trees in
      let c = content s law top top_held at place in
      let top_there = law.here top.slot top.label top_held in
      none_in (tree_of f top.label) (omega (arith, same, none c.0 c.1, stop.weighs weight c.0 c.1, tree_total f law.distinct weight top.label top_there))

  -- the step from a node that bears nothing
  pub bearing_next : (at next : Place) → IsIn s top at → Goes s top at next → ((c : Content) → content_of s.trees at.node.label ≡ Some c → weight at.node.label c ≡ 0) → total_from weight s.trees at.node.label ≡ total_from weight s.trees top.label → total_from weight s.trees next.node.label ≡ total_from weight s.trees top.label
  bearing_next at next place goes none same =
      let c = content s law top top_held at place in
      omega (arith, same, none c.0 c.1, goes.weighs weight c.0 c.1)

not_true : (b : Bool) → true ≡ not b → b ≡ false
not_true true e = absurd (cc)
not_true false e = refl

not_false : (b : Bool) → false ≡ not b → b ≡ true
not_false true e = refl
not_false false e = absurd (cc)

-- what a node bears, by the test of its content
pub bears_some : (l : ℕ) (c d : Content) → ((k : ℕ) → true ≡ not (is_empty (filter is_kept (borne_by k d)))) → d ≡ c → weight l c ≡ 1
bears_some l c d h e = weight_some l c (ap (λ x. is_empty (filter is_kept (borne_by l x))) (sym e) ∙ not_true _ (h l))

pub bears_none : (l : ℕ) (c d : Content) → ((k : ℕ) → false ≡ not (is_empty (filter is_kept (borne_by k d)))) → d ≡ c → weight l c ≡ 0
bears_none l c d h e = weight_none l c (ap (λ x. is_empty (filter is_kept (borne_by l x))) (sym e) ∙ not_false _ (h l))
