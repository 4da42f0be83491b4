use Rattle.std.proofs.Common.{◌≡◌, drop}
use Rattle.edit_model.specs.Run.{final, for_each}
use Rattle.inline_value.specs.EditDoc.Held.{Keeps}
use Rattle.inline_commands.specs.RestoringStates.{set_override}
use Rattle.inline_commands.proofs.restoring.set_overrides.Given as goal

-- what is left to do ends where the whole ends
abbrev pub invariant-loop-entry : goal.invariant-loop-entry
invariant-loop-entry l =
    (final (for_each (drop l.entry-index l.list) set_override) l.doc.state
    ≡ final (for_each l.list set_override) l.initial.doc.state)
    × Keeps l.initial.doc l.doc
