-- The state of a document under edits.
use Rattle.std.specs.Prelude.{ℕ, ◌<◌, Bool, List, Option}
use Rattle.point_order.specs.DomModel.declared.Content.{Content}
use Rattle.point_order.specs.DomModel.Change.{Change}
use Rattle.point_order.specs.DomModel.Forest.{Forest}
use Rattle.point_order.specs.LiveRange.LivePoints.{LivePoints}
use Rattle.edit_model.specs.declared.settings.Setting.{Setting}
use Rattle.edit_model.specs.declared.settings.Flags.{Flags}

-- The document is the first tree, its root has the label 0, and the loose trees follow by rising
-- label of their roots. Then come the live points, the override of each command, and the flags; the
-- label that is drawn next, the cap, and what the next label was as the running command began; the
-- affected editing host, and whether the command is a keeping one; and the edits that it has made,
-- in order, and the nodes that it has made, by rising
-- label, each with its content as made.
pub record State : Type 0 where
  pub trees : Forest Content
  pub points : LivePoints
  pub overrides : List Setting
  pub flags : Flags
  pub next : ℕ
  pub cap : ℕ
  pub start : ℕ
  pub host : Option ℕ
  pub keeping : Bool
  pub edits : List Change
  pub made : List (ℕ × Content)

-- a label that isn't below the cap was drawn
pub record IsPastCap (s : State) : Type 0 where
  pub past : s.cap < s.next
