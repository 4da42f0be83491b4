-- Places told by the children beside them, and what the code of this crate looks at. No public
-- clause cites this module.
use Rattle.std.specs.Prelude.{◌≡◌, ℕ, Bool, false, Option, Some, None, IfSome}
use Rattle.std.specs.Option.{option_map}
use Rattle.node_paths.specs.DomModel.declared.Content.{Content}
use Rattle.node_paths.specs.DomModel.Forest.{Forest, IsWithin}
use Rattle.node_tests.specs.LiveRange.declared.places.Point.{Point}
use Rattle.node_paths.specs.NodeArena.declared.NodeRef.{NodeRef}
use Rattle.node_paths.specs.NodeArena.Reads.{Names}
use Rattle.node_tests.specs.PointOrder.PointOrder.{is_ancestor}
use Rattle.node_tests.specs.BlockPoints.{child_before, child_at}
use Rattle.block_extend.specs.BlockExtend.{back, forth, out_before, out_after, is_boundary, nowhere}
use Rattle.block_extend.specs.declared.places.Place.{Place}
use Rattle.block_extend.specs.declared.places.Way.{Way}
use Rattle.block_extend.specs.declared.places.Way.TheVariants.{Back, OutBefore, Forth, OutAfter}
use Rattle.block_extend.specs.declared.gathering.Taken.{Taken}

abbrev pub point_of : Place → Point
point_of at = record { label = at.node.label; offset = at.offset }

-- the children beside a place of a node
pub record Stands (holds : NodeRef → Type 0) (f : Forest Content) (at : Place) : Type 0 where
  pub node : holds at.node
  pub before : Names holds at.before (child_before f at.node.label at.offset)
  pub after : Names holds at.after (child_at f at.node.label at.offset)

-- a step leads there
abbrev pub Leads : (NodeRef → Type 0) → Forest Content → Option Place → Option Point → Type 0
Leads holds f None to = to ≡ None
Leads holds f (Some at) to = (to ≡ Some (point_of at)) × Stands holds f at

-- a node stands below the one that may be there
abbrev pub is_below : Forest Content → Option ℕ → ℕ → Bool
is_below f None l = false
is_below f (Some t) l = is_ancestor f t l

-- the node taken last
abbrev pub top_of : Option Taken → Option ℕ
top_of last = option_map (λ t. t.top.label) last

-- a node that was taken, and one of its tree
abbrev pub IsTaken : (NodeRef → Type 0) → Forest Content → Option Taken → Type 0
IsTaken holds f last = IfSome last (λ t. holds t.top × IsWithin f t.top.label t.inside.label)

-- the step of a walk by its way, and where it stops
abbrev pub step : Way → Forest Content → Point → Option Point
step Back = back
step OutBefore = out_before
step Forth = forth
step OutAfter = out_after

abbrev pub stops : Way → Forest Content → Point → Bool
stops Back = is_boundary
stops OutBefore = nowhere
stops Forth = is_boundary
stops OutAfter = nowhere
