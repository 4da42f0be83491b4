use Rattle.std.proofs.Common.{◌≡◌}
use Rattle.inline_value.specs.EditDoc.Held.{Holds}
use Rattle.inline_value.specs.WrapSplit.Walks.{walk, turn_bound}
use Rattle.text_insertion.specs.Halves.{into_last_block}
use Rattle.text_insertion.proofs.halves.deepest_last.Given as goal

-- the rest of the walk ends where the whole ends
abbrev pub invariant-loop-turns : goal.invariant-loop-turns
invariant-loop-turns l =
    (walk (into_last_block l.doc.state) l.turns l.at.label ≡ walk (into_last_block l.doc.state) (turn_bound l.doc.state) l.fn.node.label)
    × Holds l.doc l.at

abbrev pub decreases-loop-turns : goal.decreases-loop-turns
decreases-loop-turns l = l.turns
