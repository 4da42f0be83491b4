use Rattle.std.proofs.Common.{◌≡◌, drop}
use Rattle.edit_model.specs.Gives.{labels_of}
use Rattle.edit_actions.specs.Siblings.{is_among}
use Rattle.edit_actions.proofs.siblings.is_among.Given as goal

abbrev pub invariant-loop-member : goal.invariant-loop-member
invariant-loop-member l =
    is_among l.node.label (labels_of (drop l.member-index l.list)) ≡ is_among l.node.label (labels_of l.list)
