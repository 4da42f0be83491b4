-- Points by the nodes beside them, and walks from point to point in which nothing is edited.
use Rattle.std.specs.Prelude.{ℕ, zero, suc, ◌+◌, Bool, ◌&&◌, Option, Some, None, if◌then◌else◌}
use Rattle.std.specs.Option.{option_map}
use Rattle.edit_model.specs.DomModel.declared.Content.{Content}
use Rattle.edit_model.specs.DomModel.Contents.{length_of}
use Rattle.edit_model.specs.DomModel.Forest.{Forest, parent_of}
use Rattle.edit_model.specs.DomModel.Places.{index_of}
use Rattle.edit_model.specs.LiveRange.declared.places.Point.{Point}
use Rattle.edit_model.specs.PointOrder.PointOrder.{is_before}
use Rattle.edit_model.specs.State.{State}
use Rattle.edit_model.specs.Confined.{is_inside, is_there}

abbrev pub at : ℕ → ℕ → Point
at l o = record { label = l; offset = o }

-- the start and the end of a node
abbrev pub start_in : ℕ → Point
start_in l = at l 0

abbrev pub end_in : Forest Content → ℕ → Point
end_in f l = at l (length_of f l)

-- just before and just after a node, in a parent that there may be
abbrev pub before_in : Forest Content → ℕ → Option ℕ → Option Point
before_in f l parent = option_map (λ p. at p (index_of f l)) parent

abbrev pub after_in : Forest Content → ℕ → Option ℕ → Option Point
after_in f l parent = option_map (λ p. at p (index_of f l + 1)) parent

unfoldable pub before_node : Forest Content → ℕ → Option Point
before_node f l = before_in f l (parent_of f l)

unfoldable pub after_node : Forest Content → ℕ → Option Point
after_node f l = after_in f l (parent_of f l)

-- a node that is inside, if there is one
abbrev pub if_inside : State → Option ℕ → Option ℕ
if_inside s None = None
if_inside s (Some l) = if is_inside s l then Some l else None

-- both nodes are there, and the one point comes before the other
unfoldable pub comes_before : Forest Content → Point → Point → Bool
comes_before f p q = is_there f p.label && (is_there f q.label && is_before f p q)

-- from a point on, as long as a step leads to a point, and at most so many turns
abbrev pub led_on : Option Point → Point → (Point → Point) → Point
led_on None p on = p
led_on (Some q) p on = on q

unfoldable pub walk_points : (Point → Option Point) → ℕ → Point → Point
walk_points step zero p = p
walk_points step (suc n) p = led_on (step p) p (walk_points step n)
