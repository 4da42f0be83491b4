-- Lists in tree order.
use Rattle.std.proofs.Common.{ℕ, Bool, true, false, cond, List, [], ◌∷◌}
use Rattle.std.specs.List.{filter}
use Rattle.node_paths.specs.DomModel.declared.Content.{Content}
use Rattle.node_paths.specs.DomModel.Forest.{Forest, preorder}
use Rattle.node_tests.specs.LiveRange.declared.places.Point.{Point}
use Rattle.node_tests.specs.Ranges.{is_contained, contained_nodes}
use Rattle.block_extend.specs.Order.{Subsequence, empty, both, left_out, IsInOrder}

-- what a test leaves of a list
filtered : (test : ℕ → Bool) (xs ys : List ℕ) → Subsequence xs ys → Subsequence (filter test xs) ys
filtered test xs ys empty = empty
filtered test xs ys (both {xs = us} {ys = vs} x s) = by_test (test x) (filtered test us vs s)
  where
    by_test : (b : Bool) → Subsequence (filter test us) vs → Subsequence (cond b (x ∷ filter test us) (filter test us)) (x ∷ vs)
    by_test true rest = both x rest
    by_test false rest = left_out x rest
filtered test xs ys (left_out {ys = vs} y s) = left_out y (filtered test xs vs s)

whole : (xs : List ℕ) → Subsequence xs xs
whole [] = empty
whole (x ∷ xs) = both x (whole xs)

-- the nodes in a range that pass a test
pub chosen_in_order : (test : ℕ → Bool) (f : Forest Content) (start end : Point) → IsInOrder f (filter test (contained_nodes f start end))
unfolding contained_nodes
chosen_in_order test f start end = record { among = filtered test (filter (is_contained f start end) (preorder f)) (preorder f) (filtered (is_contained f start end) (preorder f) (preorder f) (whole (preorder f))) }
