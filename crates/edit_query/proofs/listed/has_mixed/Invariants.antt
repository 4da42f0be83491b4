use Rattle.std.proofs.Common.{◌≡◌, drop}
use Rattle.edit_model.specs.Gives.{labels_of}
use Rattle.edit_query.specs.Listed.{has_mixed}
use Rattle.edit_query.proofs.listed.has_mixed.Given as goal

abbrev pub invariant-loop-node : goal.invariant-loop-node
invariant-loop-node l =
    has_mixed l.doc.state.trees (labels_of (drop l.node-index l.list)) ≡ has_mixed l.doc.state.trees (labels_of l.list)
