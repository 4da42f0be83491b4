use Rattle.std.proofs.Common.{◌≡◌, ◌++◌, take, encode_utf8_all}
use Rattle.escaped_text.proofs.push_chars.Given as goal

-- the characters so far are appended
abbrev pub invariant-loop-c : goal.invariant-loop-c
invariant-loop-c l = l.bytes.items ≡ l.initial.bytes.items ++ encode_utf8_all (take l.c-index l.text)
