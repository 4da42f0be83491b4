use Rattle.std.proofs.Common.{◌≡◌}
use Rattle.wrap_split.specs.EditDoc.Held.{Holds}
use Rattle.inline_value.specs.Reordering.{reorder_step}
use Rattle.wrap_split.specs.Walks.{turn_bound, walk}
use Rattle.inline_value.proofs.reordering.reordered.Given as goal

-- from what is come to, the turns that are left lead where all turns lead from the node
abbrev pub invariant-walk : goal.invariant-walk
invariant-walk l =
    (walk (reorder_step l.doc.state.trees l.command l.value) l.left l.at.label ≡ walk (reorder_step l.doc.state.trees l.command l.value) (turn_bound l.doc.state) l.fn.node.label)
    × Holds l.doc l.at

abbrev pub decreases-walk : goal.decreases-walk
decreases-walk l = l.left
