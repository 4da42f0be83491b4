use Rattle.std.proofs.Common.{length, drop, map, get_or, ◌-◌, ◌≡◌, ◌+◌, ◌≤◌, ◌<◌}
use Rattle.block_extend.specs.Series.{count_after, count_series}
use Rattle.block_extend.proofs.series.count_series.Given as goal

-- the series has the members so far, and those that go on from the last of them
abbrev pub invariant-loop-count : goal.invariant-loop-count
invariant-loop-count g l =
    (0 < l.count)
    × ((l.count ≤ length l.list)
    × (count_series (g.L.Link.linked l.link l.nodes) (map (λ r. r.label) l.list)
    ≡ count_after (g.L.Link.linked l.link l.nodes) (get_or l.list (l.count - 1) record { slot = 0; label = 0 }).label (map (λ r. r.label) (drop l.count l.list)) + l.count))

abbrev pub decreases-loop-count : goal.decreases-loop-count
decreases-loop-count g l = length l.list - l.count
