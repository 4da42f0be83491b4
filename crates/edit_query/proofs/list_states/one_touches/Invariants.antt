use Rattle.std.proofs.Common.{◌≡◌, drop}
use Rattle.std.specs.List.{list_any}
use Rattle.edit_model.specs.Gives.{labels_of}
use Rattle.edit_query.specs.ListStates.{touches}
use Rattle.edit_query.proofs.list_states.one_touches.Given as goal

abbrev pub invariant-loop-node : goal.invariant-loop-node
invariant-loop-node l =
    list_any (touches l.ordered l.doc.state.trees) (labels_of (drop l.node-index l.list))
    ≡ list_any (touches l.ordered l.doc.state.trees) (labels_of l.list)
