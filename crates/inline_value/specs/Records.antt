-- What contracts see of a list of recorded values.
use Rattle.std.specs.Prelude.{List, map}
use Rattle.edit_model.specs.NodeArena.declared.NodeRef.{NodeRef}
use Rattle.inline_value.specs.declared.recording.Value.{Value}
use Rattle.inline_value.specs.Recording.{Recorded}

-- an entry, by the label of its node
unfoldable pub entry_of : Value → Recorded
entry_of v = record { node = v.node.label; command = v.command; value = v.value }

unfoldable pub entries_of : List Value → List Recorded
entries_of list = map entry_of list

-- the nodes
unfoldable pub nodes_of : List Value → List NodeRef
nodes_of list = map (λ v. v.node) list
