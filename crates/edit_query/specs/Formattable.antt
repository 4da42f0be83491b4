-- The nodes that questions about inline commands look at: the formattable nodes that the active
-- range effectively contains (HTML Editing APIs, "formattable node", "effectively contained").
use Rattle.std.specs.Prelude.{ℕ, List, [], ◌∷◌, Option, Some, None}
use Rattle.std.specs.List.{filter}
use Rattle.std.specs.Option.{option_map}
use Rattle.edit_model.specs.DomModel.declared.Content.{Content}
use Rattle.edit_model.specs.DomModel.Forest.{Forest}
use Rattle.edit_model.specs.LiveRange.declared.places.Pair.{Pair}
use Rattle.block_extend.specs.NodeTests.Ranges.{effective_nodes}
use Rattle.block_extend.specs.NodeTests.Visible.{is_formattable}
use Rattle.edit_model.specs.State.{State}
use Rattle.edit_actions.specs.ActiveRange.{start_of, end_of}

-- those of the range of a pair of points, editable with this host
unfoldable pub formattable_between : Forest Content → ℕ → Pair → List ℕ
formattable_between f host pair =
    filter (is_formattable f host) (effective_nodes f (start_of f pair) (end_of f pair))

-- without a host nothing is editable, and without a selection nothing is contained
abbrev pub formattable_for : Forest Content → Option ℕ → Option Pair → List ℕ
formattable_for f None o = []
formattable_for f (Some host) None = []
formattable_for f (Some host) (Some pair) = formattable_between f host pair

-- in tree order
unfoldable pub formattable_nodes : State → Option ℕ → List ℕ
formattable_nodes s host = formattable_for s.trees host s.points.selection

-- the first of a list
abbrev pub first_in : List ℕ → Option ℕ
first_in [] = None
first_in (l ∷ ls) = Some l

unfoldable pub first_formattable : State → Option ℕ → Option ℕ
first_formattable s host = first_in (formattable_nodes s host)

-- the node of the active range's start
unfoldable pub start_node : State → Option ℕ
start_node s = option_map (λ pair. (start_of s.trees pair).label) s.points.selection
