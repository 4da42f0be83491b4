use Rattle.std.proofs.Common.{◌≡◌, drop}
use Rattle.std.specs.List.{list_any}
use Rattle.edit_model.specs.Gives.{labels_of}
use Rattle.edit_query.specs.Features.{has_feature}
use Rattle.edit_query.proofs.listed.is_at_one.Given as goal

abbrev pub invariant-loop-node : goal.invariant-loop-node
invariant-loop-node l =
    list_any (has_feature l.feature l.doc.state.trees) (labels_of (drop l.node-index l.list))
    ≡ list_any (has_feature l.feature l.doc.state.trees) (labels_of l.list)
