use Rattle.std.proofs.Common.{◌≡◌, drop}
use Rattle.edit_model.specs.Gives.{labels_of}
use Rattle.wrap_split.specs.Wrap.{all_hidden}
use Rattle.wrap_split.proofs.listing.all_hidden.Given as goal

-- the rest gives what the whole gives
abbrev pub invariant-loop-member : goal.invariant-loop-member
invariant-loop-member l = all_hidden l.doc.state (labels_of (drop l.member-index l.list)) ≡ all_hidden l.doc.state (labels_of l.list)
