use Rattle.std.proofs.Common.{sym, ◌∙◌, arith}
use Rattle.node_arena.proofs.DomModel.Within.{depth_of-parent}
use Rattle.node_styles.proofs.Lineages.{nearest-here, nearest-root, nearest-parent}
use Rattle.node_styles.proofs.lineage.nearest.Goals as goal

pub loop-at-smaller : goal.loop-at-smaller
loop-at-smaller g c =
    omega (arith, depth_of-parent (g.N.Nodes.trees c.args.nodes.now) c.loop-at.at.label c.in-Some.parent.label c.valid.ensures.distinct (sym c.in-Some.ensures.is))

pub loop-at-preserved : goal.loop-at-preserved
loop-at-preserved g c = record {
  held = c.in-Some.ensures.held;
  same =
      sym (nearest-parent (g.T.Test.test c.args.wanted.now) (g.N.Nodes.trees c.args.nodes.now) c.valid.ensures.distinct c.loop-at.at.label c.content.result.now (c.valid.ensures.here c.loop-at.at c.loop-at.invariant.held) c.content.ensures c.in-Some.parent.label (sym c.in-Some.ensures.is) (sym c.passes.ensures ∙ c.loop-at-test.true))
      ∙ c.loop-at.invariant.same;
}

pub returns-in-None-clause-none : goal.returns-in-None-clause-none
returns-in-None-clause-none g c =
    sym c.loop-at.invariant.same
    ∙ nearest-root (g.T.Test.test c.args.wanted.now) (g.N.Nodes.trees c.args.nodes.now) c.valid.ensures.distinct c.loop-at.at.label c.content.result.now (c.valid.ensures.here c.loop-at.at c.loop-at.invariant.held) c.content.ensures (sym c.in-None.ensures.is) (sym c.passes.ensures ∙ c.loop-at-test.true)

pub returns-clause-found : goal.returns-clause-found
returns-clause-found g c = record {
  held = c.loop-at.invariant.held;
  content = c.content.result.now;
  at = c.content.ensures;
  is =
      sym c.loop-at.invariant.same
      ∙ nearest-here (g.T.Test.test c.args.wanted.now) (g.N.Nodes.trees c.args.nodes.now) c.valid.ensures.distinct c.loop-at.at.label c.content.result.now (c.valid.ensures.here c.loop-at.at c.loop-at.invariant.held) c.content.ensures (sym c.passes.ensures ∙ c.loop-at-test.false);
}
