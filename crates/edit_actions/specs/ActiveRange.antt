-- The active range, and the editing host that a command works in (HTML Editing APIs, "affected
-- editing host").
use Rattle.std.specs.Prelude.{ℕ, Option}
use Rattle.std.specs.Option.{option_and_then}
use Rattle.edit_model.specs.DomModel.declared.Content.{Content}
use Rattle.edit_model.specs.DomModel.Forest.{Forest}
use Rattle.edit_model.specs.LiveRange.ActiveRange.{range_start, range_end}
use Rattle.edit_model.specs.LiveRange.declared.places.Pair.{Pair}
use Rattle.edit_model.specs.LiveRange.declared.places.Point.{Point}
use Rattle.edit_model.specs.PointOrder.PointOrder.{is_before}
use Rattle.node_tests.specs.AffectedHost as nodes
use Rattle.edit_model.specs.State.{State}

-- the earlier and the later point of a selection
abbrev pub start_of : Forest Content → Pair → Point
start_of f pair = range_start (is_before f) pair

abbrev pub end_of : Forest Content → Pair → Point
end_of f pair = range_end (is_before f) pair

-- that of the nodes of the active range's two ends; without a selection there is none
unfoldable pub host_of_pair : Forest Content → Pair → Option ℕ
host_of_pair f pair = nodes.affected_host f (start_of f pair).label (end_of f pair).label

unfoldable pub affected_host : State → Option ℕ
affected_host s = option_and_then (host_of_pair s.trees) s.points.selection
