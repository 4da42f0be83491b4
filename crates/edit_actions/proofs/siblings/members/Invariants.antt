use Rattle.std.proofs.Common.{◌≡◌, ◌++◌, drop}
use Rattle.edit_model.specs.Gives.{labels_of}
use Rattle.edit_doc.specs.Held.{EachHeld}
use Rattle.edit_actions.specs.Siblings.{members}
use Rattle.edit_actions.proofs.siblings.members.Given as goal

-- the members so far are listed, and the others are still to be listed
abbrev pub invariant-loop-member : goal.invariant-loop-member
invariant-loop-member l =
    (labels_of l.kept.items ++ members l.doc.state l.parent.label (labels_of (drop l.member-index l.list))
    ≡ members l.doc.state l.parent.label (labels_of l.list))
    × EachHeld l.doc l.kept.items
