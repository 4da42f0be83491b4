use Rattle.std.proofs.Common.{◌≡◌, ◌≤◌, ◌-◌, ◌++◌, length, drop}
use Rattle.node_texts.specs.Occurrences.{offsets, offsets_from, points_at}
use Rattle.node_texts.proofs.occurrences.push_points.Given as goal

-- the points before this offset are appended
abbrev pub invariant-loop-at : goal.invariant-loop-at
invariant-loop-at l = record {
  within : l.at ≤ length l.chars;
  found : l.points.items ++ points_at l.label (offsets_from l.wanted l.at 0 (drop l.at l.chars)) ≡ l.fn.points.items ++ points_at l.label (offsets l.wanted l.chars);
}

abbrev pub decreases-loop-at : goal.decreases-loop-at
decreases-loop-at l = length l.chars - l.at
