use Rattle.std.proofs.Common.{◌≡◌, false}
use Rattle.live_range.specs.PointsEdit.{has_label}
use Rattle.live_range.proofs.RowLabels.{first_pairs}
use Rattle.live_range.proofs.standing.stands_in.Given as goal

abbrev pub invariant-loop-number : goal.invariant-loop-number
invariant-loop-number l = has_label (first_pairs l.places l.number) l.label ≡ false
