use Rattle.std.proofs.Common.{sym, ◌∙◌, arith}
use Rattle.edit_model.proofs.DomModel.Within.{depth_of-parent}
use Rattle.edit_query.proofs.Climbing.{stays, goes_on, parent_editable, ends_on_top}
use Rattle.edit_query.proofs.Hosting.{parent_inside}
use Rattle.edit_query.proofs.block_types.block_at.Goals as goal

pub loop-parent-smaller : goal.loop-parent-smaller
loop-parent-smaller c =
    let found = c.in-Some.ensures in
    omega (arith, depth_of-parent c.args.doc.now.state.trees c.loop-parent.at.label c.in-Some.parent.label c.valid.ensures.valid.forest.distinct (sym found.is))

pub goes_up-requires-clause-known : goal.goes_up-requires-clause-known
goes_up-requires-clause-known c = λ on.
    let found = c.in-Some.ensures in
    parent_inside c.args.doc.now.state.trees c.valid.ensures.valid.forest.distinct c.args.host.label c.loop-parent.at.label c.in-Some.parent.label (sym found.is) (c.loop-parent.invariant.editable on)

pub returns-then-not-goes_up-clause-block : goal.returns-then-not-goes_up-clause-block
returns-then-not-goes_up-clause-block c =
    sym c.loop-parent.invariant.same
    ∙ stays c.args.doc.now.state.trees c.args.host.label c.valid.ensures.valid.forest.distinct c.loop-parent.at.label c.loop-parent.invariant.held.here (sym c.goes_up.ensures ∙ c.if-not-goes_up.true)

pub loop-parent-preserved : goal.loop-parent-preserved
loop-parent-preserved c =
    let found = c.in-Some.ensures in
    record {
      held = found.held;
      editable = λ _. parent_editable c.args.doc.now.state.trees c.args.host.label c.valid.ensures.valid.forest.distinct c.loop-parent.at.label c.loop-parent.invariant.held.here c.in-Some.parent.label (sym found.is) (sym c.goes_up.ensures ∙ c.if-not-goes_up.false);
      same =
          sym (goes_on c.args.doc.now.state.trees c.args.host.label c.valid.ensures.valid.forest.distinct c.loop-parent.at.label c.loop-parent.invariant.held.here c.in-Some.parent.label (sym found.is) (sym c.goes_up.ensures ∙ c.if-not-goes_up.false))
          ∙ c.loop-parent.invariant.same;
    }

pub returns-clause-block : goal.returns-clause-block
returns-clause-block c =
    let found = c.in_default.ensures in
    sym c.loop-parent.invariant.same
    ∙ ends_on_top c.args.doc.now.state.trees c.args.host.label c.valid.ensures.valid.forest.distinct c.loop-parent.at.label c.loop-parent.invariant.held.here (sym found.is)
