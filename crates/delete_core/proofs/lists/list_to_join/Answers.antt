use Rattle.std.proofs.Common.{sym, ◌∙◌, ap, arith, Some}
use Rattle.edit_model.proofs.DomModel.Within.{depth_of-parent}
use Rattle.delete_core.proofs.Above.{joins_here, joins_none, joins_above}
use Rattle.delete_core.proofs.lists.list_to_join.Goals as goal

pub loop-at-smaller : goal.loop-at-smaller
loop-at-smaller c =
    omega (arith, depth_of-parent c.args.doc.now.state.trees c.loop-at.at.label c.in-Some.parent.label c.valid.ensures.distinct (sym c.in-Some.ensures.is))

pub loop-at-preserved : goal.loop-at-preserved
loop-at-preserved c = record {
  held = c.in-Some.ensures.held;
  same =
      sym (joins_above c.args.doc.now.state c.valid.ensures.distinct c.loop-at.at.label c.loop-at.invariant.held.here c.in-Some.parent.label (sym c.in-Some.ensures.is) (sym c.joins_next.ensures ∙ c.loop-at-test.true))
      ∙ c.loop-at.invariant.same;
}

pub returns-in-None : goal.returns-in-None
returns-in-None c = record {
  is =
      sym (joins_none c.args.doc.now.state c.valid.ensures.distinct c.loop-at.at.label c.loop-at.invariant.held.here (sym c.in-None.ensures.is) (sym c.joins_next.ensures ∙ c.loop-at-test.true))
      ∙ c.loop-at.invariant.same;
  held = tt;
}

pub returns : goal.returns
returns c = record {
  is =
      sym (joins_here c.args.doc.now.state c.valid.ensures.distinct c.loop-at.at.label c.loop-at.invariant.held.here (sym c.joins_next.ensures ∙ c.loop-at-test.false))
      ∙ c.loop-at.invariant.same;
  held = c.loop-at.invariant.held;
}
