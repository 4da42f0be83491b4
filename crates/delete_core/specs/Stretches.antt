-- What is known of the ends of what is deleted.
use Rattle.std.specs.Prelude.{◌≡◌}
use Rattle.inline_value.specs.EditDoc.Held.{Holds}
use Rattle.inline_value.specs.EditDoc.Whole.{Whole}
use Rattle.delete_core.specs.declared.deletion.Stretch.{Stretch}

-- the nodes of its two points are held
pub record StretchHeld (d : Whole) (x : Stretch) : Type 0 where
  pub start : Holds d x.start_node
  pub start_is : x.start.label ≡ x.start_node.label
  pub end : Holds d x.end_node
  pub end_is : x.end.label ≡ x.end_node.label
