-- Visible and formattable nodes (HTML Editing APIs, "visible", "formattable node").
use Rattle.std.specs.Prelude.{ℕ, Bool, false, not, ◌&&◌, ◌||◌}
use Rattle.node_styles.specs.DomModel.declared.Content.{Content}
use Rattle.node_styles.specs.DomModel.Editing.{is_editable}
use Rattle.node_styles.specs.DomModel.Forest.{Forest, tree_of}
use Rattle.node_styles.specs.DomModel.Forest.Forest.{Nil, Tree}
use Rattle.node_styles.specs.Blocks.{is_block, is_no_box, is_hidden}
use Rattle.node_styles.specs.Resolved.{display}
use Rattle.node_tests.specs.CollapsedWhitespace.{is_words, is_collapsed_whitespace}
use Rattle.node_styles.specs.DomModel.Contents.{is_image, is_break}
use Rattle.node_tests.specs.SolidNeighbours.{is_extraneous_break}

-- a block, Words that is no collapsed whitespace, an image, or a br that isn't extraneous
unfoldable pub shows : Forest Content → ℕ → Bool
shows f l = is_block f l || (is_words f l && not (is_collapsed_whitespace f l)) || is_image f l
    || (is_break f l && not (is_extraneous_break f l))

-- the node itself has display none
unfoldable pub is_boxless : Forest Content → ℕ → Bool
is_boxless f l = is_no_box (display f l)

-- in trees that stand in f a node shows, and no node above it in these trees nor itself has display
-- none
abbrev pub shows_in : Forest Content → Forest Content → Bool
shows_in f Nil = false
shows_in f (Tree l c ks rest) =
    (not (is_boxless f l) && (shows f l || shows_in f ks)) || shows_in f rest

-- the node or one below it shows, and no ancestor has display none
unfoldable pub is_visible : Forest Content → ℕ → Bool
is_visible f l = not (is_hidden f l) && shows_in f (tree_of f l)

-- editable with this host, visible, and Words, an image or a br
unfoldable pub is_formattable : Forest Content → ℕ → ℕ → Bool
is_formattable f host l =
    is_editable f host l && (is_words f l || is_image f l || is_break f l) && is_visible f l
