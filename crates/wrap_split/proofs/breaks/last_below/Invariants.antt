use Rattle.std.proofs.Common.{◌≡◌}
use Rattle.edit_actions.specs.EditDoc.Held.{Holds}
use Rattle.edit_model.specs.DomModel.Forest.{last_of}
use Rattle.wrap_split.specs.Walks.{turn_bound, walk}
use Rattle.wrap_split.proofs.breaks.last_below.Given as goal

-- the rest of the walk ends where the whole ends
abbrev pub invariant-loop-turns : goal.invariant-loop-turns
invariant-loop-turns l =
    (walk (last_of l.doc.state.trees) l.turns l.at.label ≡ walk (last_of l.doc.state.trees) (turn_bound l.doc.state) l.fn.node.label)
    × Holds l.doc l.at

abbrev pub decreases-loop-turns : goal.decreases-loop-turns
decreases-loop-turns l = l.turns
