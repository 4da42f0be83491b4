use Rattle.std.proofs.Common.{◌≡◌, true}
use Rattle.inline_value.specs.WrapSplit.Walks.{turn_bound}
use Rattle.delete_core.specs.Whitespace.{back_step}
use Rattle.delete_core.specs.InLine.{FollowsNone}
use Rattle.delete_core.specs.Places.{walk_points}
use Rattle.delete_core.proofs.stepping.start_of_blanks.Given as goal

-- the rest of the walk ends where the whole ends, and what is known where it stands is so
abbrev pub invariant-loop-turns : goal.invariant-loop-turns
invariant-loop-turns l =
    (walk_points (back_step l.doc.state) l.turns l.stand.at ≡ walk_points (back_step l.doc.state) (turn_bound l.doc.state) l.fn.at)
    × (l.stand.in_line ≡ true → FollowsNone l.doc.state.trees l.stand.at)

abbrev pub decreases-loop-turns : goal.decreases-loop-turns
decreases-loop-turns l = l.turns
