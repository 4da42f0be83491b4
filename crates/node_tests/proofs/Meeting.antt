-- What is met in trees one after another.
use Rattle.std.proofs.Common.{◌≡◌, ℕ, Option, Some, None, refl, sym, ap, ◌∙◌}
use Rattle.std.specs.Option.{option_or}
use Rattle.node_styles.specs.DomModel.declared.Content.{Content}
use Rattle.node_styles.specs.DomModel.Forest.{Forest, join}
use Rattle.node_styles.specs.DomModel.Forest.Forest.{Nil, Tree}
use Rattle.node_tests.specs.declared.neighbours.Neighbour.{Neighbour}
use Rattle.node_tests.specs.SolidNeighbours.{met, nearer, first_met}
use Rattle.node_tests.specs.declared.sides.Side.{Side}
use Rattle.node_tests.specs.declared.sides.Side.TheVariants.{Before, After}
use Rattle.node_tests.proofs.Joined.{joined}

or_none : (o : Option Neighbour) → option_or o None ≡ o
or_none None = refl
or_none (Some x) = refl

or_assoc : (a b c : Option Neighbour) → option_or (option_or a b) c ≡ option_or a (option_or b c)
or_assoc None b c = refl
or_assoc (Some x) b c = refl

nearer_assoc : (side : Side) (a b c : Option Neighbour) → nearer side a (nearer side b c) ≡ nearer side (nearer side a b) c
nearer_assoc Before a b c = or_assoc c b a
nearer_assoc After a b c = sym (or_assoc a b c)

module _ (f : Forest Content) where
  pub first_met-join : (side : Side) (g h : Forest Content) → first_met side f (join g h) ≡ nearer side (first_met side f g) (first_met side f h)
  first_met-join Before Nil h = sym (or_none (first_met Before f h))
  first_met-join After Nil h = refl
  first_met-join side (Tree m c ks rest) h =
      ap (nearer side (option_or (met f m) (first_met side f ks))) (first_met-join side rest h)
      ∙ nearer_assoc side (option_or (met f m) (first_met side f ks)) (first_met side f rest) (first_met side f h)

  pub first_met-joined : (side : Side) (near far : Forest Content) → first_met side f (joined side near far) ≡ option_or (first_met side f near) (first_met side f far)
  first_met-joined Before near far = first_met-join Before far near
  first_met-joined After near far = first_met-join After near far

  pub first_met-tree : (side : Side) (l : ℕ) (c : Content) (ks : Forest Content) → first_met side f (Tree l c ks Nil) ≡ option_or (met f l) (first_met side f ks)
  first_met-tree Before l c ks = refl
  first_met-tree After l c ks = or_none (option_or (met f l) (first_met After f ks))
