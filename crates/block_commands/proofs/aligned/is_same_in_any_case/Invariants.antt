use Rattle.std.proofs.Common.{◌≡◌, drop, map, bytes_eq}
use Rattle.std.specs.Char.{to_ascii_lowercase}
use Rattle.block_commands.proofs.aligned.is_same_in_any_case.Given as goal

abbrev pub invariant-loop-i : goal.invariant-loop-i
invariant-loop-i l = bytes_eq (map to_ascii_lowercase (drop l.i l.text)) (map to_ascii_lowercase (drop l.i l.other)) ≡ bytes_eq (map to_ascii_lowercase l.text) (map to_ascii_lowercase l.other)
