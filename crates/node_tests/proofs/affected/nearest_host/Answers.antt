use Rattle.std.proofs.Common.{sym, ◌∙◌, arith}
use Rattle.node_styles.proofs.DomModel.Within.{depth_of-parent}
use Rattle.node_tests.proofs.Hosting.{own_at_host, own_at_root, own_up, own_on, own_ends, own_none}
use Rattle.node_tests.proofs.affected.nearest_host.Goals as goal

pub returns-in-None-clause-none : goal.returns-in-None-clause-none
returns-in-None-clause-none g c =
    let f = (g.N.Nodes.trees c.args.nodes.now) in
    own_none f c.valid.ensures.distinct c.args.node.label c.loop-at.at.label c.loop-at.invariant.own
    (own_at_root f c.valid.ensures.distinct c.loop-at.at.label (sym c.is_host.ensures ∙ c.loop-at-test.true) (sym c.in-None.ensures.is))

pub loop-at-smaller : goal.loop-at-smaller
loop-at-smaller g c =
    omega (arith, depth_of-parent (g.N.Nodes.trees c.args.nodes.now) c.loop-at.at.label c.in-Some.parent.label c.valid.ensures.distinct (sym c.in-Some.ensures.is))

pub loop-at-preserved : goal.loop-at-preserved
loop-at-preserved g c =
    let f = (g.N.Nodes.trees c.args.nodes.now) in
    let law = c.valid.ensures in
    record {
      held = c.in-Some.ensures.held;
      own = own_on f law.distinct c.args.node.label c.loop-at.at.label c.in-Some.parent.label c.loop-at.invariant.own
          (own_up f law.distinct c.loop-at.at.label c.in-Some.parent.label (sym c.is_host.ensures ∙ c.loop-at-test.true) (sym c.in-Some.ensures.is));
    }

pub returns-clause-own : goal.returns-clause-own
returns-clause-own g c =
    let f = (g.N.Nodes.trees c.args.nodes.now) in
    let law = c.valid.ensures in
    own_ends f law.distinct c.args.node.label c.loop-at.at.label _ c.loop-at.invariant.own
    (own_at_host f law.distinct c.loop-at.at.label (sym c.is_host.ensures ∙ c.loop-at-test.false))
