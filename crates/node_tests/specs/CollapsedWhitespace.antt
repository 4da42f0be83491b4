-- Collapsed whitespace (HTML Editing APIs, "collapsed whitespace node").
use Rattle.std.specs.Prelude.{ℕ, Bool, true, false, not, ◌&&◌, ◌||◌, List, [], ◌∷◌, Option, Some, None, if◌then◌else◌}
use Rattle.std.specs.Option.{option_map_or, unwrap_or}
use Rattle.node_styles.specs.DomModel.declared.Content.{Content}
use Rattle.node_styles.specs.DomModel.declared.Content.TheVariants.{Words}
use Rattle.node_styles.specs.DomModel.Contents.{is_break, is_image}
use Rattle.node_styles.specs.DomModel.Forest.{Forest, content_of}
use Rattle.node_styles.specs.CssValue.StyleText.{is_empty}
use Rattle.node_styles.specs.Blocks.{is_block, is_hidden, is_whitespace}
use Rattle.node_tests.specs.Surroundings.{nodes_before, nodes_after}

abbrev pub is_words_content : Content → Bool
is_words_content (Words chars) = true
is_words_content _ = false

unfoldable pub is_words : Forest Content → ℕ → Bool
is_words f l = option_map_or is_words_content (content_of f l) false

-- Words that isn't whitespace, or an image
unfoldable pub is_solid : Forest Content → ℕ → Bool
is_solid f l = is_image f l || (is_words f l && not (is_whitespace f l))

-- what a node decides of whether whitespace beside it collapses, if it decides it: at a block or a
-- break it does, at a solid node it doesn't
unfoldable pub decides : Forest Content → ℕ → Option Bool
decides f l =
    if is_block f l || is_break f l then Some true else (if is_solid f l then Some false else None)

-- the first of these nodes that decides; past the last the block is left, and the whitespace
-- collapses
unfoldable pub collapses_at : Forest Content → List ℕ → Bool
collapses_at f [] = true
collapses_at f (l ∷ ls) = unwrap_or (decides f l) (collapses_at f ls)

abbrev pub is_empty_words : Content → Bool
is_empty_words (Words chars) = is_empty chars
is_empty_words _ = false

-- whitespace that is empty, hidden, or collapses at what stands before or after it
unfoldable pub is_collapsed_whitespace : Forest Content → ℕ → Bool
is_collapsed_whitespace f l =
    is_whitespace f l
    && (option_map_or is_empty_words (content_of f l) false || is_hidden f l
    || collapses_at f (nodes_before f l) || collapses_at f (nodes_after f l))
