use Rattle.std.proofs.Common.{◌≡◌, ◌≤◌, ◌*◌, length}
use Rattle.live_range.proofs.RowLabels.{met}
use Rattle.live_range.proofs.standing.standing_labels.Given as goal

abbrev pub invariant-loop-number : goal.invariant-loop-number
invariant-loop-number l = record { met : l.labels ≡ met l.places l.number; few : length l.labels ≤ 2 * l.number }
