use Rattle.std.proofs.Common.{◌≡◌, ◌++◌}
use Rattle.page_write.specs.Listing.{indent}
use Rattle.page_write.proofs.listing.push_indent.Given as goal

-- the levels so far are appended
abbrev pub invariant-loop : goal.invariant-loop
invariant-loop l = l.bytes.items ≡ l.initial.bytes.items ++ indent l.counter
