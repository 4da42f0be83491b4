use Rattle.std.proofs.Common.{◌≡◌, drop}
use Rattle.std.specs.List.{filter}
use Rattle.edit_model.specs.Gives.{labels_of}
use Rattle.edit_query.specs.Formattable.{first_in}
use Rattle.edit_query.specs.Sought.{is_sought}
use Rattle.edit_query.proofs.sought.first_sought.Given as goal

abbrev pub invariant-loop-node : goal.invariant-loop-node
invariant-loop-node l =
    first_in (filter (is_sought l.sought l.doc.state.trees l.host.label) (labels_of (drop l.node-index l.list)))
    ≡ first_in (filter (is_sought l.sought l.doc.state.trees l.host.label) (labels_of l.list))
