use Rattle.std.proofs.Common.{◌≡◌, ◌++◌, map, take}
use Rattle.inline_value.specs.Overrides.{answered}
use Rattle.inline_value.proofs.overrides.push_answers.Given as goal

-- those of the commands so far are listed
abbrev pub invariant-loop-command : goal.invariant-loop-command
invariant-loop-command l = l.found.items ≡ l.initial.found.items ++ map (answered l.doc.state) (take l.command-index l.commands)
