use Rattle.std.proofs.Common.{sym, ◌∙◌}
use Rattle.wrap_split.proofs.LastNodes.{last_down, last_alone}
use Rattle.wrap_split.proofs.walks.last_within.Goals as goal

pub loop-child-smaller : goal.loop-child-smaller
loop-child-smaller c =
    (last_down c.args.doc.now.state.trees c.valid.ensures.valid.forest.distinct c.loop-child.at.label c.in-Some.child.label c.loop-child.invariant.1.here (sym c.in-Some.ensures.is)).1

pub loop-child-preserved : goal.loop-child-preserved
loop-child-preserved c = (
  c.loop-child.invariant.0
      ∙ (last_down c.args.doc.now.state.trees c.valid.ensures.valid.forest.distinct c.loop-child.at.label c.in-Some.child.label c.loop-child.invariant.1.here (sym c.in-Some.ensures.is)).0,
  c.in-Some.ensures.held,
)

pub returns-clause-last : goal.returns-clause-last
returns-clause-last c =
    c.loop-child.invariant.0
    ∙ last_alone c.args.doc.now.state.trees c.valid.ensures.valid.forest.distinct c.loop-child.at.label c.loop-child.invariant.1.here (sym c.in_default.ensures.is)
