use Rattle.std.proofs.Common.{◌≡◌, drop}
use Rattle.edit_model.specs.Gives.{labels_of}
use Rattle.edit_actions.specs.Siblings.{first_parent}
use Rattle.edit_actions.proofs.siblings.first_parent.Given as goal

abbrev pub invariant-loop-member : goal.invariant-loop-member
invariant-loop-member l =
    first_parent l.doc.state (labels_of (drop l.member-index l.list)) ≡ first_parent l.doc.state (labels_of l.list)
