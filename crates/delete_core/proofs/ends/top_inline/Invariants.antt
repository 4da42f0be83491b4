use Rattle.std.proofs.Common.{◌≡◌}
use Rattle.inline_value.specs.EditDoc.Held.{Holds}
use Rattle.inline_value.specs.WrapSplit.Walks.{walk, turn_bound}
use Rattle.delete_core.specs.Ends.{up_inline}
use Rattle.delete_core.proofs.ends.top_inline.Given as goal

-- the rest of the walk ends where the whole ends
abbrev pub invariant-loop-turns : goal.invariant-loop-turns
invariant-loop-turns l =
    (walk (up_inline l.doc.state) l.turns l.at.label ≡ walk (up_inline l.doc.state) (turn_bound l.doc.state) l.fn.node.label)
    × Holds l.doc l.at

abbrev pub decreases-loop-turns : goal.decreases-loop-turns
decreases-loop-turns l = l.turns
