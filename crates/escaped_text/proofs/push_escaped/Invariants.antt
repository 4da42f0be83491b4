use Rattle.std.proofs.Common.{◌≡◌, ◌++◌, take}
use Rattle.escaped_text.specs.Escaped.{escaped_bytes}
use Rattle.escaped_text.proofs.push_escaped.Given as goal

-- the characters so far are appended
abbrev pub invariant-loop-c : goal.invariant-loop-c
invariant-loop-c l = l.bytes.items ≡ l.initial.bytes.items ++ escaped_bytes (take l.c-index l.text)
