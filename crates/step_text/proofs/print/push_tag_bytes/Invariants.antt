use Rattle.std.proofs.Common.{◌≡◌, ◌++◌, take}
use Rattle.std.specs.List.{flat_map}
use Rattle.step_text.specs.StepLine.{tag_byte}
use Rattle.step_text.proofs.print.push_tag_bytes.Given as goal

-- the bytes so far are appended
abbrev pub invariant-loop-byte : goal.invariant-loop-byte
invariant-loop-byte l = l.bytes.items ≡ l.initial.bytes.items ++ flat_map tag_byte (take l.byte-index l.tag)
