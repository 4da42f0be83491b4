-- The child toward a node, by a walk from that node to the root.
use Rattle.std.proofs.Common.{◌≡◌, ◌≢◌, ℕ, ◌<◌, true, false, [], Option, Some, None, refl, sym, ap, ◌∙◌, arith, nat_lt}
use Rattle.std.proofs.lemmas.Bool.{lt-ltb, le-ltb}
use Rattle.std.specs.Option.{option_map_or}
use Rattle.node_arena.specs.DomModel.declared.Content.{Content}
use Rattle.node_arena.specs.DomModel.Forest.{Forest, Seen, seek, IsDistinct, IsWithin, times, count_of, tree_of, parent_of, children_of}
use Rattle.node_arena.proofs.DomModel.Links.{parent_of_child, child_of_parent, parent_count, found_stands}
use Rattle.node_arena.proofs.DomModel.Within.{within_self, within_child, within_step, within_root}
use Rattle.node_arena.proofs.DomModel.Move.{parent_apart}
use Rattle.point_order.specs.PointOrder.{is_within, child_toward}
use Rattle.point_order.proofs.Finds.{find-same, find-none, find-one}

module _ (f : Forest Content) (once : IsDistinct f) where
  -- the test and the fact
  is_true : (k l : ℕ) → IsWithin f k l → is_within f k l ≡ true
  is_true k l h = lt-ltb 0 (count_of (tree_of f k) l) h

  is_false : (k l : ℕ) → (IsWithin f k l → ⊥) → is_within f k l ≡ false
  is_false k l h = by_count (count_of (tree_of f k) l) h
    where
      by_count : (n : ℕ) → (0 < n → ⊥) → nat_lt 0 n ≡ false
      by_count n h = le-ltb 0 n (omega (arith, h))

  same_test : (k l m : ℕ) → (IsWithin f k l → IsWithin f k m) → (IsWithin f k m → IsWithin f k l) → is_within f k l ≡ is_within f k m
  same_test k l m to from = by_counts (count_of (tree_of f k) l) (count_of (tree_of f k) m) to from
    where
      by_counts : (a b : ℕ) → (0 < a → 0 < b) → (0 < b → 0 < a) → nat_lt 0 a ≡ nat_lt 0 b
      by_counts a b to from = grind (arith, lt-ltb, le-ltb)

  -- a label among the children of a node has that node as its parent
  pub parent_among : (p k : ℕ) → 0 < times (children_of f p) k → parent_of f k ≡ Some p
  parent_among p k h = by_seen (seek None f p) refl h
    where
      by_seen : (o : Option (Seen Content)) → seek None f p ≡ o → 0 < times (option_map_or (λ s. s.children) o []) k → parent_of f k ≡ Some p
      by_seen None e t = absurd (omega (arith, t))
      by_seen (Some s) e t = parent_of_child f p k s once (found_stands f p s once e) t

  pub child_among : (k p : ℕ) → parent_of f k ≡ Some p → 0 < times (children_of f p) k
  child_among k p child =
      let r = child_of_parent f k p once child in
      let e : children_of f p ≡ r.0.children = ap (λ o. option_map_or (λ (s : Seen Content). s.children) o []) r.2 in
      rw e r.3

  here : (k p : ℕ) → parent_of f k ≡ Some p → 0 < count_of f k
  here k p child = (parent_count f k p once child).0

  -- the child toward a node is the one toward its parent, unless it is the node itself
  pub toward-parent : (top l p : ℕ) → parent_of f l ≡ Some p → p ≢ top → child_toward f top p ≡ child_toward f top l
  toward-parent top l p child off =
      find-same (λ k. is_within f k p) (λ k. is_within f k l) (children_of f top) (λ k t.
      let up = parent_among top k t in
      let h = here k top up in
      same_test k p l
      (λ w. within_child f k once h l p child w)
      (λ w. within_step f k once h l p (λ e. apart k up e) child w))
    where
      apart : (k : ℕ) → parent_of f k ≡ Some top → k ≡ l → ⊥
      apart k up e = off (let t : Some p ≡ Some top = sym child ∙ ap (parent_of f) (sym e) ∙ up in cc)

  -- the child toward a child is that child
  pub toward-child : (top l : ℕ) → parent_of f l ≡ Some top → child_toward f top l ≡ Some l
  toward-child top l child =
      find-one (λ k. is_within f k l) (children_of f top) l (child_among l top child)
      (is_true l l (within_self f l once (here l top child)))
      (λ k t other. is_false k l (λ w.
      let up = parent_among top k t in
      parent_apart f k top once up (within_step f k once (here k top up) l top other child w)))

  -- none of a node's children is above a root
  pub toward-root : (top l : ℕ) → parent_of f l ≡ None → child_toward f top l ≡ None
  toward-root top l root =
      find-none (λ k. is_within f k l) (children_of f top) (λ k t. is_false k l (λ w.
      let up = parent_among top k t in
      within_root f k once (here k top up) l (λ e. apart k up e) root w))
    where
      apart : (k : ℕ) → parent_of f k ≡ Some top → k ≡ l → ⊥
      apart k up e = let t : Some top ≡ None = sym up ∙ ap (parent_of f) e ∙ root in cc
