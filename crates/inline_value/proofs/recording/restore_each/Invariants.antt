use Rattle.std.proofs.Common.{◌≡◌, drop}
use Rattle.edit_model.specs.Run.{final, for_each}
use Rattle.wrap_split.specs.EditDoc.Held.{Keeps}
use Rattle.inline_value.specs.Recording.{restore_value}
use Rattle.inline_value.specs.Records.{entries_of}
use Rattle.inline_value.proofs.recording.restore_each.Given as goal

-- what is left to do ends where the whole ends
abbrev pub invariant-loop-entry : goal.invariant-loop-entry
invariant-loop-entry l =
    (final (for_each (entries_of (drop l.entry-index l.list)) restore_value) l.doc.state
    ≡ final (for_each (entries_of l.list) restore_value) l.initial.doc.state)
    × Keeps l.initial.doc l.doc
