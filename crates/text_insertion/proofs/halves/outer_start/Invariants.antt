use Rattle.std.proofs.Common.{◌≡◌, ◌<◌}
use Rattle.edit_model.specs.DomModel.Forest.{count_of}
use Rattle.inline_value.specs.WrapSplit.Walks.{turn_bound}
use Rattle.delete_core.specs.Places.{walk_points}
use Rattle.text_insertion.specs.Halves.{leave_start}
use Rattle.text_insertion.proofs.halves.outer_start.Given as goal

-- the rest of the walk ends where the whole ends
abbrev pub invariant-loop-turns : goal.invariant-loop-turns
invariant-loop-turns l =
    (walk_points (leave_start l.doc.state) l.turns l.at ≡ walk_points (leave_start l.doc.state) (turn_bound l.doc.state) l.fn.at)
    × (0 < count_of l.doc.state.trees l.at.label)

abbrev pub decreases-loop-turns : goal.decreases-loop-turns
decreases-loop-turns l = l.turns
