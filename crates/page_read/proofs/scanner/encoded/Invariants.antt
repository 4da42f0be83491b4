use Rattle.std.proofs.Common.{◌≡◌, take}
use Rattle.std.proofs.Math.Utf8.{encodes}
use Rattle.std.specs.String.{string_bytes}
use Rattle.page_read.proofs.scanner.encoded.Given as goal

-- the characters so far
abbrev pub invariant-loop-c : goal.invariant-loop-c
invariant-loop-c l = string_bytes l.text ≡ encodes (take l.c-index l.chars)
