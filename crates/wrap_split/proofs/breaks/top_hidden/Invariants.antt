use Rattle.std.proofs.Common.{◌≡◌}
use Rattle.edit_actions.specs.EditDoc.Held.{Holds}
use Rattle.wrap_split.specs.Breaks.{up_step}
use Rattle.wrap_split.specs.Walks.{turn_bound, walk}
use Rattle.wrap_split.proofs.breaks.top_hidden.Given as goal

-- the rest of the walk ends where the whole ends
abbrev pub invariant-loop-turns : goal.invariant-loop-turns
invariant-loop-turns l =
    (walk (up_step l.doc.state) l.turns l.at.label ≡ walk (up_step l.doc.state) (turn_bound l.doc.state) l.fn.node.label)
    × Holds l.doc l.at

abbrev pub decreases-loop-turns : goal.decreases-loop-turns
decreases-loop-turns l = l.turns
