-- The nodes of the block-extended active range that a command on blocks goes over.
use Rattle.std.specs.Prelude.{ℕ, Bool, List, [], Option, Some, None}
use Rattle.edit_model.specs.DomModel.declared.Content.{Content}
use Rattle.edit_model.specs.DomModel.Forest.{Forest}
use Rattle.edit_model.specs.LiveRange.declared.places.Pair.{Pair}
use Rattle.edit_model.specs.LiveRange.declared.places.Point.{Point}
use Rattle.edit_model.specs.State.{State}
use Rattle.edit_actions.specs.ActiveRange.{start_of, end_of}
use Rattle.block_extend.specs.BlockExtend.{block_extend}
use Rattle.block_extend.specs.Gather.{gathered}

-- the ends of the range of two points, block-extended
abbrev pub extended : Forest Content → Pair → Point × Point
extended f pair = block_extend f (start_of f pair) (end_of f pair)

abbrev pub outermost_in : (ℕ → Bool) → Forest Content → Point × Point → List ℕ
outermost_in test f range = gathered test f range.0 range.1

abbrev pub outermost_by : (ℕ → Bool) → Forest Content → Option Pair → List ℕ
outermost_by test f None = []
outermost_by test f (Some pair) = outermost_in test f (extended f pair)

-- the nodes that it contains and that pass, in tree order, without those that have an ancestor
-- among them; without a selection there are none
unfoldable pub outermost : (ℕ → Bool) → State → List ℕ
outermost test s = outermost_by test s.trees s.points.selection
