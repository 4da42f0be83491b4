use Rattle.std.proofs.Common.{ap, subst}
use Rattle.edit_model.specs.Gives.{Gives}
use Rattle.edit_model.specs.State.{State}
use Rattle.inline_value.specs.EditDoc.Whole.{Whole}
use Rattle.inline_value.proofs.EditDoc.Chosen.{keeps_both}
use Rattle.edit_engine.specs.Commands.{action_of}
use Rattle.edit_engine.proofs.Selected.{gives_selected}
use Rattle.edit_engine.proofs.actions.act_on.Goals as goal

pub returns-clause-keeps : goal.returns-clause-keeps
returns-clause-keeps c = keeps_both c.args.doc.now c.select_range.new.doc c.take_action.new.doc c.select_range.ensures.keeps c.take_action.ensures.keeps

pub returns-clause-gives : goal.returns-clause-gives
returns-clause-gives c =
    let m = action_of c.args.command c.args.value.now in
    let r = c.take_action.result in
    let after = c.take_action.new.doc.state in
    gives_selected r c.args.doc.now.state after c.args.range.anchor c.args.range.focus m
    (subst (λ (s : State). Gives r s after m) (ap (λ (w : Whole). w.state) c.select_range.ensures.selected) c.take_action.ensures.gives)
