-- The nodes that questions about formatBlock and the justify commands look at: the visible editable
-- nodes without children that the block-extended active range contains (HTML Editing APIs,
-- "block-extend", "visible").
use Rattle.std.specs.Prelude.{ℕ, Bool, ◌&&◌, List, [], Option, Some, None, is_none}
use Rattle.std.specs.List.{filter}
use Rattle.edit_model.specs.DomModel.declared.Content.{Content}
use Rattle.edit_model.specs.DomModel.Editing.{is_editable}
use Rattle.edit_model.specs.DomModel.Forest.{Forest, first_of}
use Rattle.edit_model.specs.LiveRange.declared.places.Pair.{Pair}
use Rattle.edit_model.specs.LiveRange.declared.places.Point.{Point}
use Rattle.block_extend.specs.NodeTests.Ranges.{contained_nodes}
use Rattle.block_extend.specs.NodeTests.Visible.{is_visible}
use Rattle.block_extend.specs.BlockExtend.{block_extend}
use Rattle.edit_model.specs.State.{State}
use Rattle.edit_actions.specs.ActiveRange.{start_of, end_of}
use Rattle.edit_query.specs.Formattable.{first_in}

-- editable with this host, without children, and visible
unfoldable pub is_leaf : Forest Content → ℕ → ℕ → Bool
is_leaf f host l = is_editable f host l && (is_none (first_of f l) && is_visible f l)

abbrev pub nodes_in : Forest Content → Point × Point → List ℕ
nodes_in f range = contained_nodes f range.0 range.1

-- the nodes that the range of a pair of points contains once it is block-extended
unfoldable pub extended_nodes : Forest Content → Pair → List ℕ
extended_nodes f pair = nodes_in f (block_extend f (start_of f pair) (end_of f pair))

unfoldable pub leaves_between : Forest Content → ℕ → Pair → List ℕ
leaves_between f host pair = filter (is_leaf f host) (extended_nodes f pair)

-- without a host nothing is editable, and without a selection nothing is contained
abbrev pub leaves_for : Forest Content → Option ℕ → Option Pair → List ℕ
leaves_for f None o = []
leaves_for f (Some host) None = []
leaves_for f (Some host) (Some pair) = leaves_between f host pair

-- in tree order
unfoldable pub leaves : State → Option ℕ → List ℕ
leaves s host = leaves_for s.trees host s.points.selection

unfoldable pub first_leaf : State → Option ℕ → Option ℕ
first_leaf s host = first_in (leaves s host)
