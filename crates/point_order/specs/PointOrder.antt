-- Which of two points comes first (DOM Standard, "boundary point position"), and whether a point
-- stands in the document.
use Rattle.std.specs.Prelude.{ℕ, Bool, not, ◌&&◌, ◌==◌, nat_lt, nat_le, Option, Some, None, if◌then◌else◌, find}
use Rattle.node_arena.specs.DomModel.declared.Content.{Content}
use Rattle.node_arena.specs.DomModel.Forest.{Forest, is_label, count_of, tree_of, children_of}
use Rattle.node_arena.specs.DomModel.Contents.{length_of}
use Rattle.node_arena.specs.DomModel.Places.{index_of, first_of_two}
use Rattle.live_range.specs.declared.places.Point.{Point}

-- a node is another, or stands below it
abbrev pub is_within : Forest Content → ℕ → ℕ → Bool
is_within f top l = nat_lt 0 (count_of (tree_of f top) l)

abbrev pub is_ancestor : Forest Content → ℕ → ℕ → Bool
is_ancestor f top l = not (top == l) && is_within f top l

-- the child of a node that another node is, or stands below
abbrev pub child_toward : Forest Content → ℕ → ℕ → Option ℕ
child_toward f top l = find (λ k. is_within f k l) (children_of f top)

-- a node comes before another one in tree order
abbrev pub is_earlier : Forest Content → ℕ → ℕ → Bool
is_earlier f a b = is_label (first_of_two f a b) a

-- the place just before a child of q's node comes before q; without a child, where neither node is
-- above the other, tree order decides
abbrev pub is_before_below : Forest Content → Point → Point → Option ℕ → Bool
is_before_below f p q None = is_earlier f p.label q.label
is_before_below f p q (Some k) = nat_lt (index_of f k) q.offset

-- the same where p's node is above q's
abbrev pub is_before_apart : Forest Content → Point → Point → Option ℕ → Bool
is_before_apart f p q None = is_before_below f p q (child_toward f q.label p.label)
is_before_apart f p q (Some k) = nat_le p.offset (index_of f k)

-- p comes before q
unfoldable pub is_before : Forest Content → Point → Point → Bool
is_before f p q =
    if p.label == q.label then nat_lt p.offset q.offset
    else is_before_apart f p q (child_toward f p.label q.label)

-- a node is in the document, whose root has the label 0
abbrev pub is_in_document : Forest Content → ℕ → Bool
is_in_document f l = is_within f 0 l

-- a point stands in the document, at an offset of its node
unfoldable pub is_placed : Forest Content → Point → Bool
is_placed f p = is_in_document f p.label && nat_le p.offset (length_of f p.label)
