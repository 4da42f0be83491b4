use Rattle.std.proofs.Common.{◌≡◌, bytes_eq, drop}
use Rattle.std.specs.List.{list_any}
use Rattle.command_gate.specs.Denied.{lowered, is_denied}
use Rattle.command_gate.proofs.names.NameList.has.Given as goal

-- what is still to be looked at decides
abbrev pub invariant-loop-word : goal.invariant-loop-word
invariant-loop-word l = list_any (λ v. bytes_eq v.items (lowered l.name)) (drop l.word-index l.word-items) ≡ is_denied l.self l.name
