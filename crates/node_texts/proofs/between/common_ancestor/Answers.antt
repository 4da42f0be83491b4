use Rattle.std.proofs.Common.{sym, ◌∙◌, arith}
use Rattle.node_styles.proofs.DomModel.Within.{depth_of-parent}
use Rattle.node_texts.proofs.Ranges.{common_here, common_above, common_nowhere}
use Rattle.node_texts.proofs.between.common_ancestor.Goals as goal

pub loop-other-smaller : goal.loop-other-smaller
loop-other-smaller g c =
    omega (arith, depth_of-parent (g.N.Nodes.trees c.args.nodes.now) c.loop-other.at.label c.in-Some.parent.label c.valid.ensures.distinct (sym c.in-Some.ensures.is))

pub loop-other-preserved : goal.loop-other-preserved
loop-other-preserved g c =
    let here = c.valid.ensures.here c.loop-other.at c.loop-other.invariant.held in
    record {
      held = c.in-Some.ensures.held;
      same = sym (common_above (g.N.Nodes.trees c.args.nodes.now) c.valid.ensures.distinct c.loop-other.at.label here c.args.other.label c.in-Some.parent.label (sym c.in-Some.ensures.is) (sym c.is_within.ensures ∙ c.loop-other-test.true)) ∙ c.loop-other.invariant.same;
    }

pub returns-in-None : goal.returns-in-None
returns-in-None g c =
    let here = c.valid.ensures.here c.loop-other.at c.loop-other.invariant.held in
    record {
      is = sym (common_nowhere (g.N.Nodes.trees c.args.nodes.now) c.valid.ensures.distinct c.loop-other.at.label here c.args.other.label (sym c.in-None.ensures.is) (sym c.is_within.ensures ∙ c.loop-other-test.true)) ∙ c.loop-other.invariant.same;
      held = tt;
    }

pub returns : goal.returns
returns g c =
    let here = c.valid.ensures.here c.loop-other.at c.loop-other.invariant.held in
    record {
      is = sym (common_here (g.N.Nodes.trees c.args.nodes.now) c.valid.ensures.distinct c.loop-other.at.label here c.args.other.label (sym c.is_within.ensures ∙ c.loop-other-test.false)) ∙ c.loop-other.invariant.same;
      held = c.loop-other.invariant.held;
    }
