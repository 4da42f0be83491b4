use Rattle.std.proofs.Common.{◌≡◌}
use Rattle.inline_value.specs.WrapSplit.Walks.{turn_bound}
use Rattle.text_deletion.specs.Delete.{into_last}
use Rattle.delete_core.specs.Places.{walk_points}
use Rattle.text_deletion.proofs.joining.deepest_before.Given as goal

-- the rest of the walk ends where the whole ends
abbrev pub invariant-loop-turns : goal.invariant-loop-turns
invariant-loop-turns l =
    walk_points (into_last l.doc.state) l.turns l.at ≡ walk_points (into_last l.doc.state) (turn_bound l.doc.state) l.fn.at

abbrev pub decreases-loop-turns : goal.decreases-loop-turns
decreases-loop-turns l = l.turns
