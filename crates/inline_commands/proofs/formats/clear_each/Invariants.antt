use Rattle.std.proofs.Common.{◌≡◌, drop}
use Rattle.edit_model.specs.Run.{final, for_each}
use Rattle.inline_value.specs.EditDoc.Held.{Keeps}
use Rattle.inline_commands.specs.RemovingFormat.{clear_command}
use Rattle.inline_commands.proofs.formats.clear_each.Given as goal

-- what is left to do ends where the whole ends
abbrev pub invariant-loop-command : goal.invariant-loop-command
invariant-loop-command l =
    (final (for_each (drop l.command-index l.list) clear_command) l.doc.state
    ≡ final (for_each l.list clear_command) l.initial.doc.state)
    × Keeps l.initial.doc l.doc
