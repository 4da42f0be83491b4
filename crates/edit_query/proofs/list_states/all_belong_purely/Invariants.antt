use Rattle.std.proofs.Common.{◌≡◌, drop}
use Rattle.std.specs.List.{list_all}
use Rattle.edit_model.specs.Gives.{labels_of}
use Rattle.edit_query.specs.ListStates.{belongs_purely}
use Rattle.edit_query.proofs.list_states.all_belong_purely.Given as goal

abbrev pub invariant-loop-node : goal.invariant-loop-node
invariant-loop-node l =
    list_all (belongs_purely l.ordered l.doc.state.trees) (labels_of (drop l.node-index l.list))
    ≡ list_all (belongs_purely l.ordered l.doc.state.trees) (labels_of l.list)
