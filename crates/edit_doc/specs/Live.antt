-- What is seen of the tree under edits: all but the kept numbers. No public clause cites this
-- module.
use Rattle.std.specs.Prelude.{List}
use Rattle.edit_model.specs.DomModel.ArenaState.{ArenaState as Arena}
use Rattle.edit_model.specs.LiveRange.LivePoints.{LivePoints}
use Rattle.edit_model.specs.declared.settings.Setting.{Setting}
use Rattle.edit_model.specs.declared.settings.Flags.{Flags}
use Rattle.edit_doc.specs.declared.tree.LiveTree.{LiveTree}

pub record Live : Type 0 where
  pub arena : Arena
  pub points : LivePoints
  pub overrides : List Setting
  pub flags : Flags

abbrev pub live_of : Arena → LivePoints → List Setting → Flags → Live
live_of arena points overrides flags =
    record { arena = arena; points = points; overrides = overrides; flags = flags }

abbrev pub live : LiveTree → Live
live t = live_of t.nodes.arena t.points t.overrides t.flags
