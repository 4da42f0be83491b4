use Rattle.std.proofs.Common.{◌≡◌, ◌++◌, map, take}
use Rattle.inline_value.specs.Overrides.{on_at}
use Rattle.inline_value.proofs.overrides.push_states.Given as goal

-- those of the commands so far are listed
abbrev pub invariant-loop-command : goal.invariant-loop-command
invariant-loop-command l = l.found.items ≡ l.initial.found.items ++ map (on_at l.doc.state.trees l.node.label) (take l.command-index l.commands)
