-- Trees on a side of a node, the nearer first.
use Rattle.std.proofs.Common.{◌≡◌, ℕ, refl, sym}
use Rattle.node_styles.specs.DomModel.declared.Content.{Content}
use Rattle.node_styles.specs.DomModel.Forest.{Forest, join}
use Rattle.node_styles.specs.DomModel.Forest.Forest.{Nil}
use Rattle.node_styles.proofs.DomModel.Links.{join-Nil}
use Rattle.node_tests.specs.declared.sides.Side.{Side}
use Rattle.node_tests.specs.declared.sides.Side.TheVariants.{Before, After}
use Rattle.node_tests.specs.Surroundings.{earlier, later}
use Rattle.node_tests.proofs.Pieces.{join_assoc}

abbrev pub joined : Side → Forest Content → Forest Content → Forest Content
joined Before near far = join far near
joined After near far = join near far

-- those that lie wholly on this side of l in a forest
abbrev pub beyond : Side → Forest Content → ℕ → Forest Content
beyond Before g l = earlier g l
beyond After g l = later g l

pub joined_assoc : (side : Side) (f g h : Forest Content) → joined side (joined side f g) h ≡ joined side f (joined side g h)
joined_assoc Before f g h = sym (join_assoc h g f)
joined_assoc After f g h = join_assoc f g h

pub joined-Nil : (side : Side) (g : Forest Content) → joined side Nil g ≡ g
joined-Nil Before g = join-Nil g
joined-Nil After g = refl
