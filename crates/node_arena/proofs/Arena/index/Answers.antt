use Rattle.std.proofs.Common.{sym, arith}
use Rattle.dom_model.proofs.Indexes.{index_of-prev, index_of-first, index_of_low}
use Rattle.dom_model.proofs.Few.{some_nodes}
use Rattle.node_arena.proofs.Arena.index.Goals as goal

pub overflow_add-index : goal.overflow_add-index
overflow_add-index c =
    let s = c.args.self.now in
    let law = c.valid.ensures in
    omega (arith, index_of-prev s.trees law.distinct c.loop-prev.at.label c.in-Some.prev.label (sym c.in-Some.ensures.is), index_of_low s.trees law.distinct c.args.node.label (some_nodes s.trees 0 law.document), c.loop-prev.invariant.sum, law.few, law.capped, law.small)

pub loop-prev-smaller : goal.loop-prev-smaller
loop-prev-smaller c =
    let s = c.args.self.now in
    omega (arith, index_of-prev s.trees c.valid.ensures.distinct c.loop-prev.at.label c.in-Some.prev.label (sym c.in-Some.ensures.is))

pub loop-prev-preserved : goal.loop-prev-preserved
loop-prev-preserved c =
    let s = c.args.self.now in
    record {
      held = c.in-Some.ensures.held;
      sum = omega (arith, c.loop-prev.invariant.sum, index_of-prev s.trees c.valid.ensures.distinct c.loop-prev.at.label c.in-Some.prev.label (sym c.in-Some.ensures.is));
    }

pub returns : goal.returns
returns c =
    let s = c.args.self.now in
    omega (arith, c.loop-prev.invariant.sum, index_of-first s.trees c.valid.ensures.distinct c.loop-prev.at.label (sym c.in_default.ensures.is))
