use Rattle.std.proofs.Common.{ap, sym, ◌∙◌, ◌++◌}
use Rattle.std.specs.List.{filter}
use Rattle.edit_model.proofs.Steps.{labels_of_drop}
use Rattle.edit_model.specs.Gives.{labels_of}
use Rattle.edit_query.specs.Sought.{is_sought}
use Rattle.edit_query.proofs.Lists.{filtered_on}
use Rattle.edit_query.proofs.sought.sought_of.Goals as goal

pub loop-node-preserved : goal.loop-node-preserved
loop-node-preserved c =
    let test = is_sought c.args.sought c.args.doc.now.state.trees c.args.host.label in
    let before = ap (λ ls. labels_of c.loop-node.found.items ++ filter test ls) (sym (labels_of_drop c.args.list.now c.loop-node.node-index c.loop-node-test.true)) ∙ c.loop-node.invariant.0 in
    (filtered_on test _ _ _ _ _ c.in_ok-push_sought.ensures.nodes before, c.in_ok-push_sought.ensures.held)
