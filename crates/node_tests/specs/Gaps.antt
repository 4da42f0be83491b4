-- Places told by the children beside them.
use Rattle.std.specs.Prelude.{◌≡◌, ◌==◌, ◌||◌, ◌&&◌, Bool, Option, is_none, IfSome}
use Rattle.node_styles.specs.DomModel.declared.Content.{Content}
use Rattle.node_styles.specs.DomModel.Contents.{length_of}
use Rattle.node_styles.specs.DomModel.Forest.{Forest, parent_of}
use Rattle.node_styles.specs.NodeArena.Held.{label}
use Rattle.node_styles.specs.NodeArena.declared.NodeRef.{NodeRef}
use Rattle.node_tests.specs.BlockPoints.{child_before, child_at, starts_after, ends_before}
use Rattle.node_tests.specs.LineBreaks as line_breaks
use Rattle.node_tests.specs.declared.breaks.Gap.{Gap}
use Rattle.node_tests.specs.declared.breaks.Turn.{Turn}
use Rattle.node_tests.specs.declared.sides.Side.{Side}
use Rattle.node_tests.specs.declared.sides.Side.TheVariants.{Before, After}
use Rattle.node_tests.specs.declared.breaks.Turn.TheVariants.{Answer, GoOn}

-- the child beside a place
abbrev pub beside : Side → Gap → Option NodeRef
beside Before at = at.before
beside After at = at.after

-- the nodes are held
pub record HoldsGap (holds : NodeRef → Type 0) (at : Gap) : Type 0 where
  pub node : holds at.node
  pub before : IfSome at.before holds
  pub after : IfSome at.after holds

-- the children beside a place of a node, and whether it is the first place or the last
pub record StandsAt (f : Forest Content) (at : Gap) (place : line_breaks.Place) : Type 0 where
  pub node : place.node ≡ at.node.label
  pub before : label at.before ≡ child_before f at.node.label place.offset
  pub after : label at.after ≡ child_at f at.node.label place.offset
  pub ends : (is_none (label at.before) || is_none (label at.after))
      ≡ ((place.offset == 0) || (place.offset == length_of f at.node.label))

-- a turn comes to this
abbrev pub Comes : (NodeRef → Type 0) → Forest Content → Turn → line_breaks.Turn → Type 0
Comes holds f (Answer b) turn = turn ≡ line_breaks.Turn.Answer b
Comes holds f (GoOn at) turn = (place : line_breaks.Place) × (turn ≡ line_breaks.Turn.GoOn place)
    × HoldsGap holds at × StandsAt f at place

-- a place is at an end of a tree, or beside a visible block or after a visible br
abbrev pub meets_boundary : Forest Content → Gap → Bool
meets_boundary f at =
    (is_none (parent_of f at.node.label) && (is_none (label at.before) || is_none (label at.after)))
    || starts_after f (label at.before)
    || ends_before f (label at.after)
