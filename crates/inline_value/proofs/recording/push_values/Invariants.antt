use Rattle.std.proofs.Common.{◌≡◌, ◌++◌, map, take}
use Rattle.wrap_split.specs.EditDoc.Held.{EachHeld}
use Rattle.inline_value.specs.Recording.{value_at}
use Rattle.inline_value.specs.Records.{entries_of, nodes_of}
use Rattle.inline_value.proofs.recording.push_values.Given as goal

-- the values of the commands so far are listed
abbrev pub invariant-loop-command : goal.invariant-loop-command
invariant-loop-command l = record {
  values : entries_of l.found.items ≡ entries_of l.initial.found.items ++ map (value_at l.doc.state l.node.label) (take l.command-index l.commands);
  held : EachHeld l.doc (nodes_of l.found.items);
}
