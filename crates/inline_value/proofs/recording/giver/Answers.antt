use Rattle.std.proofs.Common.{sym, ◌∙◌, arith}
use Rattle.edit_model.proofs.DomModel.Within.{depth_of-parent}
use Rattle.inline_value.proofs.Givers.{given_here, given_none, given_above}
use Rattle.inline_value.proofs.recording.giver.Goals as goal

pub loop-command-smaller : goal.loop-command-smaller
loop-command-smaller c =
    omega (arith, depth_of-parent c.args.doc.now.state.trees c.loop-command.at.label c.in-Some.parent.label c.valid.ensures.valid.forest.distinct (sym c.in-Some.ensures.is))

pub loop-command-preserved : goal.loop-command-preserved
loop-command-preserved c = record {
  held = c.in-Some.ensures.held;
  same =
      sym (given_above c.args.doc.now.state.trees c.valid.ensures.valid.forest.distinct c.loop-command.at.label c.loop-command.invariant.held.here c.args.command c.in-Some.parent.label (sym c.in-Some.ensures.is) (sym c.specifies.ensures ∙ c.loop-command-test.true))
      ∙ c.loop-command.invariant.same;
}

pub returns-in-None-clause-value : goal.returns-in-None-clause-value
returns-in-None-clause-value c =
    sym (given_none c.args.doc.now.state.trees c.valid.ensures.valid.forest.distinct c.loop-command.at.label c.loop-command.invariant.held.here c.args.command (sym c.in-None.ensures.is) (sym c.specifies.ensures ∙ c.loop-command-test.true))
    ∙ c.loop-command.invariant.same

pub returns-clause-value : goal.returns-clause-value
returns-clause-value c =
    sym (given_here c.args.doc.now.state.trees c.valid.ensures.valid.forest.distinct c.loop-command.at.label c.loop-command.invariant.held.here c.args.command (sym c.specifies.ensures ∙ c.loop-command-test.false))
    ∙ c.loop-command.invariant.same
