-- What contracts see of values that are recorded to be restored, if there are any.
use Rattle.std.specs.Prelude.{List, Option, Some, None, IfSome}
use Rattle.std.specs.Option.{option_map}
use Rattle.inline_value.specs.EditDoc.Held.{EachHeld}
use Rattle.inline_value.specs.EditDoc.Whole.{Whole}
use Rattle.inline_value.specs.declared.recording.Value.{Value}
use Rattle.inline_value.specs.Recording.{Recorded}
use Rattle.inline_value.specs.Records.{entries_of, nodes_of}

-- the entries, each by the label of its node
abbrev pub recorded_in : Option (List Value) → Option (List Recorded)
recorded_in None = None
recorded_in (Some values) = Some (entries_of values)

-- their nodes are held
abbrev pub ValuesHeld : Whole → Option (List Value) → Type 0
ValuesHeld d o = IfSome o (λ values. EachHeld d (nodes_of values))
