use Rattle.std.proofs.Common.{◌≡◌, reverse}
use Rattle.edit_model.specs.Gives.{labels_of}
use Rattle.edit_actions.specs.EditDoc.Held.{Holds, EachHeld}
use Rattle.wrap_split.specs.Walks.{turn_bound}
use Rattle.wrap_split.specs.Wrap.{extended_front}
use Rattle.wrap_split.proofs.listing.with_hidden_before.Given as goal

-- the rest gives what the whole gives
abbrev pub invariant-loop-turns : goal.invariant-loop-turns
invariant-loop-turns l =
    (extended_front l.doc.state l.turns l.at.label (labels_of (reverse l.reversed.items))
    ≡ extended_front l.doc.state (turn_bound l.doc.state) l.initial.at.label (labels_of (reverse l.initial.reversed.items)))
    × (EachHeld l.doc l.reversed.items × Holds l.doc l.at)

abbrev pub decreases-loop-turns : goal.decreases-loop-turns
decreases-loop-turns l = l.turns
