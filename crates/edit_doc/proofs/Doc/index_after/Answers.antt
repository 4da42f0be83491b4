use Rattle.std.proofs.Common.{◌+◌, sym, ap, ◌∙◌, arith}
use Rattle.edit_model.proofs.DomModel.Few.{some_nodes}
use Rattle.edit_model.proofs.DomModel.Indexes.{index_of_low}
use Rattle.edit_doc.proofs.SeenNodes.{index_seen}
use Rattle.edit_doc.proofs.Doc.index_after.Goals as goal

pub overflow_add-result : goal.overflow_add-result
overflow_add-result c =
    let law = c.nodes.ensures.law in
    let f = c.nodes.result.now.trees in
    let low = index_of_low f law.distinct c.args.node.label (some_nodes f 0 law.document) in
    let is = c.index.ensures in
    let few = law.few in
    let capped = law.capped in
    let small = law.small in
    omega (arith, low, is, few, capped, small)

pub returns : goal.returns
returns c = ap (λ n. n + 1) (c.index.ensures ∙ sym (index_seen c.nodes.ensures c.args.node c.requires))
