use Rattle.std.proofs.Common.{sym, arith}
use Rattle.dom_model.proofs.Indexes.{index_of-last, length-children_of, children_of-none}
use Rattle.dom_model.proofs.Few.{some_nodes}
use Rattle.node_arena.proofs.Arena.child_count.Goals as goal

pub overflow_add-result : goal.overflow_add-result
overflow_add-result c =
    let s = c.args.self.now in
    let law = c.valid.ensures in
    omega (arith, c.index.ensures, index_of-last s.trees law.distinct c.args.node.label c.in-Some.last.label (sym c.in-Some.ensures.is), length-children_of s.trees law.distinct c.args.node.label (some_nodes s.trees 0 law.document), law.few, law.capped, law.small)

pub returns-in-None : goal.returns-in-None
returns-in-None c = sym (children_of-none c.args.self.now.trees c.valid.ensures.distinct c.args.node.label (sym c.in-None.ensures.is))

pub returns-in-Some : goal.returns-in-Some
returns-in-Some c =
    let s = c.args.self.now in
    omega (arith, c.index.ensures, index_of-last s.trees c.valid.ensures.distinct c.args.node.label c.in-Some.last.label (sym c.in-Some.ensures.is))
