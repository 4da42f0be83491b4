use Rattle.std.proofs.Common.{◌≡◌, drop}
use Rattle.edit_model.specs.Gives.{labels_of}
use Rattle.wrap_split.specs.Wrap.{first_visible}
use Rattle.wrap_split.proofs.listing.first_visible.Given as goal

-- the rest gives what the whole gives
abbrev pub invariant-loop-member : goal.invariant-loop-member
invariant-loop-member l = first_visible l.doc.state (labels_of (drop l.member-index l.list)) ≡ first_visible l.doc.state (labels_of l.list)
