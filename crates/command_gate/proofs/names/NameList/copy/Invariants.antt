use Rattle.std.proofs.Common.{◌≡◌, map, take}
use Rattle.command_gate.proofs.names.NameList.copy.Given as goal

-- the names so far are there
abbrev pub invariant-loop-name : goal.invariant-loop-name
invariant-loop-name l = map (λ v. v.items) l.list-inside.names.items ≡ map (λ v. v.items) (take l.name-index l.name-items)
