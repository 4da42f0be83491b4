-- Collapsed block props (HTML Editing APIs): what holds a line open in a block and is seen in no
-- other way.
use Rattle.std.specs.Prelude.{ℕ, Bool, true, false, not, ◌&&◌, ◌||◌}
use Rattle.node_styles.specs.DomModel.declared.Content.{Content}
use Rattle.node_styles.specs.DomModel.Contents.{is_element_at}
use Rattle.node_styles.specs.DomModel.Forest.{Forest, tree_of}
use Rattle.node_styles.specs.DomModel.Forest.Forest.{Nil, Tree}
use Rattle.node_styles.specs.Blocks.{is_block}
use Rattle.node_tests.specs.SolidNeighbours.{is_extraneous_break, is_collapsed_break}
use Rattle.node_tests.specs.Visible.{is_visible}

-- of trees: each root is invisible or a prop; some root is a prop
pub record Props : Type 0 where
  pub every : Bool
  pub some : Bool

-- a collapsed line break that isn't extraneous
unfoldable pub is_break_prop : Forest Content → ℕ → Bool
is_break_prop f l = is_collapsed_break f l && not (is_extraneous_break f l)

unfoldable pub is_inline_element : Forest Content → ℕ → Bool
is_inline_element f l = is_element_at f l && not (is_block f l)

-- such a break, or an inline element whose children are all invisible or props, with at least one
-- prop
abbrev pub is_prop : Forest Content → ℕ → Props → Bool
is_prop f l kids = is_break_prop f l || (is_inline_element f l && (kids.every && kids.some))

abbrev pub props_in : Forest Content → Forest Content → Props
props_in f Nil = record { every = true; some = false }
props_in f (Tree l c ks rest) = record {
  every = (not (is_visible f l) || is_prop f l (props_in f ks)) && (props_in f rest).every;
  some = is_prop f l (props_in f ks) || (props_in f rest).some;
}

unfoldable pub is_block_prop : Forest Content → ℕ → Bool
is_block_prop f l = (props_in f (tree_of f l)).some
