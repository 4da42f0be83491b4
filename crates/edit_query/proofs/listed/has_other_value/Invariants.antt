use Rattle.std.proofs.Common.{◌≡◌, drop}
use Rattle.std.specs.Option.{option_copied}
use Rattle.edit_model.specs.Gives.{labels_of}
use Rattle.edit_query.specs.Listed.{has_other_value}
use Rattle.edit_query.proofs.listed.has_other_value.Given as goal

abbrev pub invariant-loop-node : goal.invariant-loop-node
invariant-loop-node l =
    has_other_value l.doc.state.trees l.command (option_copied l.value) (labels_of (drop l.node-index l.list))
    ≡ has_other_value l.doc.state.trees l.command (option_copied l.value) (labels_of l.list)
