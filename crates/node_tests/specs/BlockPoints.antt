-- Places where a block starts or ends (HTML Editing APIs, "block start point", "block end point",
-- "block boundary point").
use Rattle.std.specs.Prelude.{ℕ, zero, suc, ◌==◌, Bool, false, ◌&&◌, ◌||◌, Option, None, is_none, slice_get}
use Rattle.std.specs.Option.{option_map_or}
use Rattle.node_styles.specs.DomModel.declared.Content.{Content}
use Rattle.node_styles.specs.DomModel.Contents.{length_of, is_break}
use Rattle.node_styles.specs.DomModel.Forest.{Forest, parent_of, children_of}
use Rattle.node_styles.specs.Blocks.{is_block}
use Rattle.node_tests.specs.declared.sides.Side.{Side}
use Rattle.node_tests.specs.declared.sides.Side.TheVariants.{Before, After}
use Rattle.node_tests.specs.Visible.{is_visible}

-- the child before an offset, and the child at it
abbrev pub child_before : Forest Content → ℕ → ℕ → Option ℕ
child_before f l zero = None
child_before f l (suc o) = slice_get (children_of f l) o

abbrev pub child_at : Forest Content → ℕ → ℕ → Option ℕ
child_at f l o = slice_get (children_of f l) o

-- after a visible block or a visible br
unfoldable pub starts_after : Forest Content → Option ℕ → Bool
starts_after f k = option_map_or (λ l. is_visible f l && (is_block f l || is_break f l)) k false

-- before a visible block
unfoldable pub ends_before : Forest Content → Option ℕ → Bool
ends_before f k = option_map_or (λ l. is_visible f l && is_block f l) k false

-- the offset at an end of a node
abbrev pub edge : Side → Forest Content → ℕ → ℕ
edge Before f l = 0
edge After f l = length_of f l

-- after a visible block or a visible br, or on the other side before a visible block
abbrev pub is_bounded : Side → Forest Content → ℕ → ℕ → Bool
is_bounded Before f l o = starts_after f (child_before f l o)
is_bounded After f l o = ends_before f (child_at f l o)

-- so, or at the end of a tree on this side
abbrev pub is_block_point : Side → Forest Content → ℕ → ℕ → Bool
is_block_point side f l o =
    (is_none (parent_of f l) && (o == edge side f l)) || is_bounded side f l o

-- the start of a tree, or after a visible block or a visible br
unfoldable pub is_block_start : Forest Content → ℕ → ℕ → Bool
is_block_start f l o = is_block_point Before f l o

-- the end of a tree, or before a visible block
unfoldable pub is_block_end : Forest Content → ℕ → ℕ → Bool
is_block_end f l o = is_block_point After f l o

unfoldable pub is_block_boundary : Forest Content → ℕ → ℕ → Bool
is_block_boundary f l o = is_block_start f l o || is_block_end f l o
