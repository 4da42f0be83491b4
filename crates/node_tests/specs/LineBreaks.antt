-- Whether a node follows or precedes a line break (HTML Editing APIs, "follows a line break",
-- "precedes a line break"): the standard's walks from place to place. A walk takes at most so many
-- turns as the document has places, and some.
use Rattle.std.specs.Prelude.{ℕ, zero, suc, ◌+◌, Bool, true, false, Option, Some, None, if◌then◌else◌}
use Rattle.node_styles.specs.DomModel.declared.Content.{Content}
use Rattle.node_styles.specs.DomModel.Forest.{Forest, parent_of}
use Rattle.node_styles.specs.DomModel.Places.{index_of}
use Rattle.node_styles.specs.TurnBound.{turn_bound}
use Rattle.node_tests.specs.declared.sides.Side.{Side}
use Rattle.node_tests.specs.declared.sides.Side.TheVariants.{Before, After}
use Rattle.node_tests.specs.Sides.{other}
use Rattle.node_tests.specs.Visible.{is_visible}
use Rattle.node_tests.specs.BlockPoints.{child_before, child_at, edge, is_block_boundary}

-- a place: a node and an offset in it
pub record Place : Type 0 where
  pub node : ℕ
  pub offset : ℕ

-- one turn: the answer, or where to go on
pub data Turn : Type 0 where
  Answer : Bool → Turn
  GoOn : Place → Turn

-- the place at an end of a node, the first or the last
abbrev pub end_of : Side → Forest Content → ℕ → Place
end_of side f l = record { node = l; offset = edge side f l }

-- past a child, unless it is visible: from its other end on
abbrev pub past : Side → Forest Content → ℕ → Turn
past side f k = if is_visible f k then Answer false else GoOn (end_of (other side) f k)

-- out of a node, to the place beside it
abbrev pub own_place : Side → ℕ → ℕ
own_place Before index = index
own_place After index = index + 1

abbrev pub out_to : Side → Forest Content → ℕ → Option ℕ → Turn
out_to side f l None = Answer true
out_to side f l (Some p) = GoOn (record { node = p; offset = own_place side (index_of f l) })

abbrev pub out_of : Side → Forest Content → ℕ → Turn
out_of side f l = out_to side f l (parent_of f l)

-- the child beside a place
abbrev pub child_beside : Side → Forest Content → ℕ → ℕ → Option ℕ
child_beside Before f l o = child_before f l o
child_beside After f l o = child_at f l o

abbrev pub go_past : Side → Forest Content → ℕ → Option ℕ → Turn
go_past side f l None = out_of side f l
go_past side f l (Some k) = past side f k

unfoldable pub turn_to : Side → Forest Content → Place → Turn
turn_to side f at =
    if is_block_boundary f at.node at.offset then Answer true
    else go_past side f at.node (child_beside side f at.node at.offset)

-- at most so many turns; then it is answered as at a boundary
abbrev pub walk : (Place → Turn) → ℕ → Place → Bool
walk turn zero at = true
walk turn (suc n) at = elim (turn at) [ Answer b ↦ b | GoOn next ↦ walk turn n next ]

-- from the end of l on this side
unfoldable pub meets_break : Side → Forest Content → ℕ → Bool
meets_break side f l = walk (turn_to side f) (turn_bound f) (end_of side f l)

unfoldable pub follows_break : Forest Content → ℕ → Bool
follows_break f l = meets_break Before f l

unfoldable pub precedes_break : Forest Content → ℕ → Bool
precedes_break f l = meets_break After f l
