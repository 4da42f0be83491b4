use Rattle.std.proofs.Common.{length}
use Rattle.script_read.specs.Reading.{indexes_of}
use Rattle.script_read.proofs.Places.{Follows}
use Rattle.script_read.proofs.place.read_indexes.Given as goal

abbrev pub invariant-loop-digits : goal.invariant-loop-digits
invariant-loop-digits l = Follows l.items.items l.rest (indexes_of l.text)

abbrev pub decreases-loop-digits : goal.decreases-loop-digits
decreases-loop-digits l = length l.rest
