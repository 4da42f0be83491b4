use Rattle.std.proofs.Common.{◌≡◌, ◌++◌, ◌≤◌, ◌-◌, take, length}
use Rattle.std.specs.List.{flat_map}
use Rattle.page_write.specs.PointLines.{mark_line}
use Rattle.page_write.proofs.points.push_marks.Given as goal

-- the marks before this place are appended
abbrev pub invariant-loop-name : goal.invariant-loop-name
invariant-loop-name l = record {
  within : l.place ≤ length l.points.marks;
  written : l.bytes.items ≡ l.initial.bytes.items ++ flat_map (mark_line l.arena.trees) (take l.place l.points.marks);
}

abbrev pub decreases-loop-name : goal.decreases-loop-name
decreases-loop-name l = length l.points.marks - l.place
