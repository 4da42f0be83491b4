use Rattle.std.proofs.Common.{◌≡◌, ◌+◌, map}
use Rattle.live_range.specs.Names.{marks_of}
use Rattle.live_range.specs.Rows.{Lists, has_row}
use Rattle.live_range.specs.Adjustments.{edit_of}
use Rattle.live_range.proofs.Adjusting.{Halfway}
use Rattle.live_range.proofs.RowCount.{count_below}
use Rattle.live_range.proofs.adjust.Adjustment.places.Given as goal

abbrev pub invariant-loop-row : goal.invariant-loop-row
invariant-loop-row g l = record {
  halfway : Halfway (edit_of l.self) l.initial.places l.places l.rest;
  names : map (λ m. m.name) (marks_of l.places) ≡ map (λ m. m.name) (marks_of l.initial.places);
  count : l.places.count ≡ l.initial.places.count;
  listed : Lists l.places l.nodes;
  counted : l.steps + count_below (has_row l.rest) 64 ≡ l.initial.steps + count_below (has_row l.initial.rest) 64;
}

abbrev pub decreases-loop-row : goal.decreases-loop-row
decreases-loop-row g l = l.rest.bits
