use Rattle.std.proofs.Common.{◌≡◌, ◌++◌, drop}
use Rattle.inline_value.specs.Overrides.{overrides_among}
use Rattle.inline_value.proofs.overrides.overrides_among.Given as goal

-- those of the commands so far are listed, and the others are still to be listed
abbrev pub invariant-loop-command : goal.invariant-loop-command
invariant-loop-command l =
    l.found.items ++ overrides_among l.doc.state (drop l.command-index l.commands) ≡ overrides_among l.doc.state l.commands
