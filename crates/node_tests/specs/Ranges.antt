-- Which nodes a range contains (DOM Standard, "contained"), and which it contains in effect (HTML
-- Editing APIs, "effectively contained").
use Rattle.std.specs.Prelude.{ℕ, ◌==◌, Bool, true, false, not, ◌&&◌, ◌||◌, List}
use Rattle.std.specs.List.{filter}
use Rattle.node_styles.specs.DomModel.declared.Content.{Content}
use Rattle.node_styles.specs.DomModel.Contents.{length_of}
use Rattle.node_styles.specs.DomModel.Forest.{Forest, preorder, tree_of}
use Rattle.node_styles.specs.DomModel.Forest.Forest.{Nil, Tree}
use Rattle.point_order.specs.LiveRange.declared.places.Point.{Point}
use Rattle.node_tests.specs.CollapsedWhitespace.{is_words}
use Rattle.point_order.specs.PointOrder.{is_before, is_within}

-- the node begins after the start and ends before the end
unfoldable pub is_contained : Forest Content → Point → Point → ℕ → Bool
is_contained f start end l =
    is_before f start (record { label = l; offset = 0 }) && is_before f
    (record { label = l; offset = length_of f l }) end

-- Words at an end of the range of which a part lies in it
unfoldable pub is_partial : Forest Content → Point → Point → ℕ → Bool
is_partial f start end l =
    is_words f l
    && (((l == start.label) && not (start.offset == length_of f l))
    || ((l == end.label) && not (end.offset == 0)))

-- the start, or the end, of the range cuts Words below a node
unfoldable pub start_cuts : Forest Content → Point → ℕ → Bool
start_cuts f start l =
    is_words f start.label && is_within f l start.label && not (start.offset == 0)

unfoldable pub end_cuts : Forest Content → Point → ℕ → Bool
end_cuts f end l =
    is_words f end.label && is_within f l end.label && not (end.offset == length_of f end.label)

unfoldable pub is_cut : Forest Content → Point → Point → ℕ → Bool
is_cut f start end l = start_cuts f start l || end_cuts f end l

-- the node is contained or partial
unfoldable pub is_touched : Forest Content → Point → Point → ℕ → Bool
is_touched f start end l = is_contained f start end l || is_partial f start end l

abbrev pub has_trees : Forest Content → Bool
has_trees Nil = false
has_trees (Tree l c ks rest) = true

-- each root of these trees is contained, is partial, or has children which all are so in their
-- turn, while no end of the range cuts Words below it
abbrev pub all_effective : Forest Content → Point → Point → Forest Content → Bool
all_effective f start end Nil = true
all_effective f start end (Tree l c ks rest) =
    (is_touched f start end l
    || (not (is_cut f start end l) && (has_trees ks && all_effective f start end ks)))
    && all_effective f start end rest

-- no node is where the range is collapsed
unfoldable pub is_effectively_contained : Forest Content → Point → Point → ℕ → Bool
is_effectively_contained f start end l =
    is_before f start end && all_effective f start end (tree_of f l)

-- the nodes in tree order
unfoldable pub contained_nodes : Forest Content → Point → Point → List ℕ
contained_nodes f start end = filter (is_contained f start end) (preorder f)

unfoldable pub effective_nodes : Forest Content → Point → Point → List ℕ
effective_nodes f start end = filter (is_effectively_contained f start end) (preorder f)
