-- What stands on a side of a node.
use Rattle.std.specs.Prelude.{ℕ, Option}
use Rattle.std.specs.Option.{option_or}
use Rattle.node_styles.specs.DomModel.declared.Content.{Content}
use Rattle.node_styles.specs.DomModel.Forest.{Forest, first_of, last_of, prev_of, next_of}
use Rattle.node_tests.specs.declared.sides.Side.{Side}
use Rattle.node_tests.specs.declared.sides.Side.TheVariants.{Before, After}
use Rattle.node_tests.specs.Surroundings.{trees_before, trees_after}

abbrev pub other : Side → Side
other Before = After
other After = Before

abbrev pub sibling : Side → Forest Content → ℕ → Option ℕ
sibling Before f l = prev_of f l
sibling After f l = next_of f l

-- the child that a walk to this side comes to first
abbrev pub near_child : Side → Forest Content → ℕ → Option ℕ
near_child Before f l = last_of f l
near_child After f l = first_of f l

-- where it goes on without going up
abbrev pub inward : Side → Forest Content → ℕ → Option ℕ
inward side f l = option_or (near_child side f l) (sibling side f l)

-- the trees that lie wholly on this side in the nearest block
abbrev pub trees : Side → Forest Content → ℕ → Forest Content
trees Before f l = trees_before f l
trees After f l = trees_after f l
