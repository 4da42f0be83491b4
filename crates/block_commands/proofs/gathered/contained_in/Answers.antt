use Rattle.std.proofs.Common.{◌≡◌, sym, ap, ◌∙◌, subst}
use Rattle.std.specs.Result.{IfOk}
use Rattle.std.specs.List.{filter}
use Rattle.edit_model.specs.Gives.{labels_of}
use Rattle.inline_value.specs.NodeTests.Ranges.{contained_nodes}
use Rattle.inline_value.proofs.EditQuery.Lists.{labels_mapped}
use Rattle.block_commands.proofs.gathered.contained_in.Goals as goal

pub returns-clause-nodes : goal.returns-clause-nodes
returns-clause-nodes g c =
    let f = c.args.doc.now.state.trees in
    let test = g.C.Choice.chosen c.args.choice.now c.args.doc.now in
    let list : labels_of c.as_slice.result.now ≡ contained_nodes f c.args.range.0 c.args.range.1 =
    ap labels_of c.as_slice.ensures ∙ sym (labels_mapped c.in_ok-list.list) ∙ c.in_ok-list.ensures.nodes in
    subst (λ ls. IfOk c.chosen_of.result (λ kept. labels_of kept.items ≡ filter test ls)) list c.chosen_of.ensures.nodes
