use Rattle.std.proofs.Common.{rules}
use Rattle.edit_model.proofs.Steps.{exits}
use Rattle.inline_value.proofs.EditDoc.Chosen.{keeps_both}
use Rattle.inline_commands.specs.RestoringStates.{restore_entry}
use Rattle.inline_commands.proofs.Items.{each_turned, each_fails}
use Rattle.inline_commands.proofs.restoring.restore_entries.Goals as goal

pub returns-in_err-restore_entry-clause-gives : goal.returns-in_err-restore_entry-clause-gives
returns-in_err-restore_entry-clause-gives c =
    let fails = each_fails _ c.args.list.now c.loop-entry.entry-index c.entry-item.result restore_entry c.loop-entry.doc.state _ c.loop-entry-test.true c.entry-item.is c.in_err-restore_entry.ensures.gives c.loop-entry.invariant.0 in
    search (rules, exits, fails)

pub loop-entry-preserved : goal.loop-entry-preserved
loop-entry-preserved c = (
  each_turned c.args.list.now c.loop-entry.entry-index c.entry-item.result restore_entry c.loop-entry.doc.state _ _ c.loop-entry-test.true c.entry-item.is c.in_ok-restore_entry.ensures.gives.0 c.loop-entry.invariant.0,
  keeps_both _ _ _ c.loop-entry.invariant.1 c.in_ok-restore_entry.ensures.keeps,
)
