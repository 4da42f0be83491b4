-- What stands between two points.
use Rattle.std.specs.Prelude.{ℕ, ◌-◌, ◌<◌, ◌==◌, nat_lt, not, List, take, drop, Bool, false, Option, Some, None, if◌then◌else◌}
use Rattle.std.specs.List.{find}
use Rattle.std.specs.Option.{option_map, option_map_or}
use Rattle.node_styles.specs.DomModel.declared.Content.{Content}
use Rattle.node_styles.specs.DomModel.declared.Content.TheVariants.{Words, Remark}
use Rattle.node_styles.specs.DomModel.Contents.{has_chars}
use Rattle.node_styles.specs.DomModel.Forest.{Forest, count_of, tree_of}
use Rattle.node_styles.specs.DomModel.Forest.Forest.{Nil, Tree}
use Rattle.point_order.specs.LiveRange.declared.places.Point.{Point}
use Rattle.node_styles.specs.Lineage.{lineage}
use Rattle.point_order.specs.PointOrder.{is_within}
use Rattle.node_texts.specs.declared.between.Limit.{Limit}
use Rattle.node_texts.specs.declared.between.Limit.TheVariants.{Open, Past, Inside}

-- ---- the characters of a node between two offsets, or from one on

abbrev pub chars_upto : Option ℕ → List ℕ → List ℕ
chars_upto None chars = chars
chars_upto (Some to) chars = take to chars

abbrev pub chars_part : ℕ → Option ℕ → List ℕ → List ℕ
chars_part from to chars = drop from (chars_upto to chars)

unfoldable pub part_of : ℕ → Option ℕ → Content → Content
part_of from to (Words chars) = Words (chars_part from to chars)
part_of from to (Remark chars) = Remark (chars_part from to chars)
part_of from to c = c

-- ---- a limit among siblings, at which they begin or end

abbrev pub is_in : Point → Forest Content → Bool
is_in p tree = nat_lt 0 (count_of tree p.label)

-- a tree comes before the limit
unfoldable pub is_ahead : Limit → Forest Content → Bool
is_ahead Open tree = false
is_ahead (Past count) tree = nat_lt 0 count
is_ahead (Inside p) tree = not (is_in p tree)

-- no tree comes before the limit
unfoldable pub is_over : Limit → Bool
is_over Open = false
is_over (Past count) = count == 0
is_over (Inside p) = false

-- the limit stands in a tree
unfoldable pub stands_in : Limit → Forest Content → Bool
stands_in Open tree = false
stands_in (Past count) tree = false
stands_in (Inside p) tree = is_in p tree

-- what the limit is among the siblings after the first
unfoldable pub passed : Limit → Limit
passed Open = Open
passed (Past count) = Past (count - 1)
passed (Inside p) = Inside p

-- and among the children of a node
unfoldable pub below : Limit → ℕ → Limit
below Open l = Open
below (Past count) l = Open
below (Inside p) l = if p.label == l then Past p.offset else Inside p

-- the offset among the characters of a node
unfoldable pub lower : Limit → ℕ → ℕ
lower Open l = 0
lower (Past count) l = 0
lower (Inside p) l = if p.label == l then p.offset else 0

unfoldable pub upper : Limit → ℕ → Option ℕ
upper Open l = None
upper (Past count) l = None
upper (Inside p) l = if p.label == l then Some p.offset else None

abbrev pub content_between : Limit → Limit → ℕ → Content → Content
content_between start end l c = part_of (lower start l) (upper end l) c

-- the node in which the limit stands, if it does, is in the forest
abbrev pub IsThere : Forest Content → Limit → Type 0
IsThere f Open = Unit {0}
IsThere f (Past count) = Unit {0}
IsThere f (Inside p) = 0 < count_of f p.label

-- ---- the trees between two limits: what stands before the first or after the second is left out,
-- and a node in which one stands is cut there

abbrev pub between : Limit → Limit → Forest Content → Forest Content
between start end Nil = Nil
between start end (Tree l c children rest) =
    if is_over end then Nil
    else if is_ahead start (Tree l c children Nil) then between (passed start) (passed end) rest
    else Tree l (content_between start end l c)
    (between (below start l) (below end l) children)
    (if stands_in end (Tree l c children Nil) then Nil else between Open (passed end) rest)

-- ---- the contents of a range (DOM Standard, "clone the contents" of a range)

-- the innermost node in whose tree both nodes stand
unfoldable pub common_ancestor : Forest Content → ℕ → ℕ → Option ℕ
common_ancestor f a b = option_map (λ k. k.label) (find (λ k. is_within f k.label b) (lineage f a))

-- of the tree that holds both points: the characters between them, or the children
abbrev pub contents_in : Limit → Limit → Forest Content → Forest Content
contents_in start end Nil = Nil
contents_in start end (Tree l c children rest) =
    if has_chars c then Tree l (content_between start end l c) Nil Nil
    else between (below start l) (below end l) children

unfoldable pub range_contents : Forest Content → Point → Point → Forest Content
range_contents f start end =
    option_map_or (λ top. contents_in (Inside start) (Inside end) (tree_of f top))
    (common_ancestor f start.label end.label) Nil
