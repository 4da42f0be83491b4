use Rattle.std.proofs.Common.{◌≡◌, subst, sym, ap, ◌∙◌, refl}
use Rattle.edit_model.specs.Gives.{Fails}
use Rattle.edit_model.specs.Run.{final, for_each}
use Rattle.edit_model.proofs.Steps.{exit, final-answer}
use Rattle.wrap_split.proofs.EditDoc.Chosen.{keeps_both}
use Rattle.inline_value.specs.Recording.{restore_value, restore_values}
use Rattle.inline_value.specs.Records.{entry_of, entries_of}
use Rattle.inline_value.proofs.Lists.{node_held, entry_turn, entry_end, turn_ends, turn_fails}
use Rattle.inline_value.proofs.recording.restore_each.Goals as goal

pub restore_value-requires-clause-node_held : goal.restore_value-requires-clause-node_held
restore_value-requires-clause-node_held c =
    c.loop-entry.invariant.1.held _
    (node_held c.args.doc.now c.args.list.now c.loop-entry.entry-index c.entry-item.result c.entry-item.is c.requires.list_held c.loop-entry-test.true)

pub returns-in_err-restore_value-clause-gives : goal.returns-in_err-restore_value-clause-gives
unfolding restore_values
returns-in_err-restore_value-clause-gives c =
    exit _ _ _ _ _ c.from_residual.ensures.1
    (turn_fails _ _ _ _ _ _ (entry_turn c.args.list.now c.loop-entry.entry-index c.entry-item.result restore_value c.entry-item.is c.loop-entry-test.true) c.loop-entry.invariant.0 c.in_err-restore_value.ensures.gives)

pub loop-entry-preserved : goal.loop-entry-preserved
loop-entry-preserved c = (
  turn_ends _ _ _ _ _ _ (entry_turn c.args.list.now c.loop-entry.entry-index c.entry-item.result restore_value c.entry-item.is c.loop-entry-test.true) c.loop-entry.invariant.0 c.in_ok-restore_value.ensures.gives.0,
  keeps_both _ _ _ c.loop-entry.invariant.1 c.in_ok-restore_value.ensures.keeps,
)

pub returns-clause-gives : goal.returns-clause-gives
unfolding restore_values
returns-clause-gives c = (
  sym c.loop-entry.invariant.0
      ∙ (ap (λ m. final m c.loop-entry.doc.state) (entry_end c.args.list.now c.loop-entry.entry-index restore_value c.loop-entry-test.false)
      ∙ final-answer tt c.loop-entry.doc.state),
  refl,
)
