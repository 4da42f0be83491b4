use Rattle.std.proofs.Common.{◌≡◌, drop}
use Rattle.edit_model.specs.DomModel.Forest.{either}
use Rattle.edit_model.specs.Gives.{label_of, labels_of}
use Rattle.edit_actions.specs.EditDoc.Held.{IfHeld}
use Rattle.wrap_split.specs.Wrap.{last_visible}
use Rattle.wrap_split.proofs.listing.last_visible.Given as goal

-- the rest gives what the whole gives
abbrev pub invariant-loop-member : goal.invariant-loop-member
invariant-loop-member l =
    (either (last_visible l.doc.state (labels_of (drop l.member-index l.list))) (label_of l.found)
    ≡ last_visible l.doc.state (labels_of l.list))
    × IfHeld l.doc l.found
