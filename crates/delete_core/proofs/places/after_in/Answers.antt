use Rattle.std.proofs.Common.{arith}
use Rattle.edit_model.proofs.DomModel.Few.{some_nodes}
use Rattle.edit_model.proofs.DomModel.Indexes.{index_of_low}
use Rattle.delete_core.proofs.places.after_in.Goals as goal

pub overflow_add-result : goal.overflow_add-result
overflow_add-result c =
    let f = c.args.doc.now.state.trees in
    let law = c.valid.ensures in
    omega (arith, c.index.ensures, index_of_low f law.distinct c.args.node.label (some_nodes f c.args.node.label (law.here c.args.node c.requires.held)), law.few, law.small)
