-- What a document under edits shows of its arena. No public clause cites this module.
use Rattle.std.specs.Prelude.{◌≡◌}
use Rattle.edit_model.specs.DomModel.ArenaState.{ArenaState as Arena, IsValid as IsArena}
use Rattle.edit_doc.specs.Whole.{Whole}
use Rattle.edit_doc.specs.Held.{IsPart}

-- the nodes of the arena, but for loose trees that the definitions don't see
pub record Shows (v : Whole) (a : Arena) : Type 0 where
  pub law : IsArena a
  pub part : IsPart v.state.trees a.trees
  pub held : v.held ≡ a.held
  pub next : v.state.next ≡ a.next
  pub cap : v.state.cap ≡ a.cap
