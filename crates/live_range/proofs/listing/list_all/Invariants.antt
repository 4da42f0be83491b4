use Rattle.std.proofs.Common.{◌*◌, ◌≤◌, length}
use Rattle.live_range.proofs.RowLists.{ListsBelow}
use Rattle.live_range.proofs.listing.list_all.Given as goal

abbrev pub invariant-loop-number : goal.invariant-loop-number
invariant-loop-number l = record { listed : ListsBelow l.places l.nodes l.number; few : length l.nodes ≤ 2 * l.number }
