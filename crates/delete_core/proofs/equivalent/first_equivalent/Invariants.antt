use Rattle.std.proofs.Common.{◌≡◌}
use Rattle.inline_value.specs.WrapSplit.Walks.{turn_bound}
use Rattle.delete_core.specs.Equivalent.{previous_point}
use Rattle.delete_core.specs.Places.{walk_points}
use Rattle.delete_core.proofs.equivalent.first_equivalent.Given as goal

-- the rest of the walk ends where the whole ends
abbrev pub invariant-loop-turns : goal.invariant-loop-turns
invariant-loop-turns l =
    walk_points (previous_point l.doc.state.trees) l.turns l.at ≡ walk_points (previous_point l.doc.state.trees) (turn_bound l.doc.state) l.fn.at

abbrev pub decreases-loop-turns : goal.decreases-loop-turns
decreases-loop-turns l = l.turns
