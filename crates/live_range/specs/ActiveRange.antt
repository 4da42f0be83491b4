-- The active range of a selection runs from the earlier of its two points to the later. Which one
-- is earlier is the tree order of the points, which the tree tells: here it is a parameter.
use Rattle.std.specs.Prelude.{Bool, true, false, not, ◌&&◌, ◌==◌, Option, Some, None, if◌then◌else◌}
use Rattle.live_range.specs.declared.places.Point.{Point}
use Rattle.live_range.specs.declared.places.Pair.{Pair}

abbrev pub range_start : (Point → Point → Bool) → Pair → Point
range_start before p = if before p.focus p.anchor then p.focus else p.anchor

abbrev pub range_end : (Point → Point → Bool) → Pair → Point
range_end before p = if before p.focus p.anchor then p.anchor else p.focus

abbrev pub same_point : Point → Point → Bool
same_point a b = (a.label == b.label) && (a.offset == b.offset)

-- Whether the active range has another start or another end, or came or went, where `was` and `is`
-- are the tree orders before and after. An exchange of anchor and focus changes neither.
abbrev pub range_changed : (was is : Point → Point → Bool) → Option Pair → Option Pair → Bool
range_changed was is None None = false
range_changed was is None (Some q) = true
range_changed was is (Some p) None = true
range_changed was is (Some p) (Some q) =
    not (same_point (range_start was p) (range_start is q)
    && same_point (range_end was p) (range_end is q))
