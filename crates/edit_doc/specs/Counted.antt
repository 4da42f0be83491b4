-- When numbers are those of a document. No public clause cites this module.
use Rattle.std.specs.Prelude.{◌≡◌, ◌≤◌}
use Rattle.edit_model.specs.DomModel.declared.Content.{Content}
use Rattle.edit_model.specs.DomModel.Document.{node_count, char_count, page_depth}
use Rattle.edit_model.specs.DomModel.Forest.{Forest}
use Rattle.edit_parts.specs.declared.Counts.{Counts}

-- the document of the forest has as many nodes and characters, and is no deeper
pub record IsCounted (f : Forest Content) (c : Counts) : Type 0 where
  pub nodes : c.nodes ≡ node_count f
  pub chars : c.chars ≡ char_count f
  pub depth : page_depth f ≤ c.depth
