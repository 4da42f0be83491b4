-- The nodes of the block-extended active range that a block command goes over.
use Rattle.std.specs.Prelude.{ℕ, Bool, List, [], Option, Some, None}
use Rattle.std.specs.List.{filter}
use Rattle.edit_model.specs.DomModel.declared.Content.{Content}
use Rattle.edit_model.specs.DomModel.Forest.{Forest}
use Rattle.edit_model.specs.LiveRange.declared.places.Pair.{Pair}
use Rattle.edit_model.specs.LiveRange.declared.places.Point.{Point}
use Rattle.inline_value.specs.NodeTests.Ranges.{contained_nodes}
use Rattle.edit_model.specs.State.{State}
use Rattle.inline_value.specs.EditQuery.Gathered.{extended}

abbrev pub contained_in : (ℕ → Bool) → Forest Content → Point × Point → List ℕ
contained_in test f range = filter test (contained_nodes f range.0 range.1)

abbrev pub contained_by : (ℕ → Bool) → Forest Content → Option Pair → List ℕ
contained_by test f None = []
contained_by test f (Some pair) = contained_in test f (extended f pair)

-- all nodes that it contains and that pass
unfoldable pub contained : (ℕ → Bool) → State → List ℕ
contained test s = contained_by test s.trees s.points.selection
