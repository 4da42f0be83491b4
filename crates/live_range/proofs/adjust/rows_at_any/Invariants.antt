use Rattle.std.proofs.Common.{◌≡◌, ℕ, take}
use Rattle.std.specs.List.{list_any}
use Rattle.live_range.specs.Rows.{has_row, listed_at}
use Rattle.live_range.proofs.adjust.rows_at_any.Given as goal

abbrev pub invariant-loop-label : goal.invariant-loop-label
invariant-loop-label l = (r : ℕ) → has_row l.rows r ≡ list_any (λ x. listed_at l.nodes x r) (take l.label-index l.labels)
