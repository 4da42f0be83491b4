-- The plain text of trees: the characters of their texts and a line feed for each br, in tree order.
-- Where a block begins or ends between two of these characters, a line feed comes between them,
-- unless the first one is a line feed.
use Rattle.std.specs.Prelude.{ℕ, ◌-◌, ◌++◌, ◌||◌, ◌&&◌, ◌==◌, not, List, [], ◌∷◌, length, Bool, true, false, if◌then◌else◌, codes}
use Rattle.std.specs.List.{slice_get}
use Rattle.std.specs.Option.{option_map_or}
use Rattle.node_styles.specs.DomModel.declared.Content.{Content}
use Rattle.node_styles.specs.DomModel.declared.Content.TheVariants.{Words}
use Rattle.node_styles.specs.DomModel.Forest.{Forest, tree_of}
use Rattle.node_styles.specs.Blocks.{is_block_content}
use Rattle.node_styles.specs.OwnStyles.{is_named}
use Rattle.point_order.specs.LiveRange.declared.places.Point.{Point}
use Rattle.node_texts.specs.Between.{range_contents}
use Rattle.node_texts.specs.Walk.{walked}

-- the characters so far, and whether a block has begun or ended since the last of them
abbrev pub Plain : Type 0
Plain = List ℕ × Bool

-- what a node itself has: the characters of a text, and a line feed of a br
unfoldable pub own_text : Content → List ℕ
own_text (Words chars) = chars
own_text c = if is_named (codes "br") c then 10 ∷ [] else []

-- there are no characters, or a line feed is the last of them
abbrev pub is_line_start : List ℕ → Bool
is_line_start text = option_map_or (λ c. c == 10) (slice_get text (length text - 1)) true

-- what comes between the characters and the next ones
abbrev pub line_end : Plain → List ℕ
line_end p = if p.1 && not (is_line_start p.0) then 10 ∷ [] else []

abbrev pub with_text : Plain → List ℕ → Plain
with_text p [] = p
with_text p (c ∷ cs) = (p.0 ++ line_end p ++ c ∷ cs, false)

abbrev pub with_edge : Plain → Bool → Plain
with_edge p is_edge = (p.0, p.1 || is_edge)

abbrev pub text_entered : Plain → ℕ → Content → Plain
text_entered p l c = with_text (with_edge p (is_block_content c)) (own_text c)

abbrev pub text_left : Plain → ℕ → Content → Plain
text_left p l c = with_edge p (is_block_content c)

unfoldable pub text_of : Forest Content → List ℕ
text_of f = (walked text_entered text_left f ([], false)).0

-- that of a node with all that stands below it
unfoldable pub plain_text : Forest Content → ℕ → List ℕ
plain_text f l = text_of (tree_of f l)

-- and that of the contents between two points
unfoldable pub range_text : Forest Content → Point → Point → List ℕ
range_text f start end = text_of (range_contents f start end)
