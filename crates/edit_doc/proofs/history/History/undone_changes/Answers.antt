use Rattle.std.proofs.Common.{◌≡◌, ◌∙◌, sym, ap, subst}
use Rattle.std.proofs.lemmas.Result.{IfOk-weaker}
use Rattle.step_edits.specs.UndoLog.Log.{Log, FitsRedo}
use Rattle.step_edits.specs.EditSteps.declared.step.Step.{Step}
use Rattle.step_edits.specs.EditSteps.Step.{StepFits, step_applied}
use Rattle.edit_doc.specs.Changes.{steps_told_back}
use Rattle.edit_doc.specs.Trail.{Trail}
use Rattle.edit_doc.proofs.Telling.{undone_recorded}
use Rattle.edit_doc.proofs.history.History.undone_changes.Goals as goal

pub returns-clause-told : goal.returns-clause-told
returns-clause-told c =
    let log : c.self.inside.log ≡ c.args.self.now.log = ap (λ (t : Trail). t.log) c.self.view_is in
    let fit = subst (λ (l : Log Step). FitsRedo step_applied StepFits l.redo c.args.arena.now) (sym log) c.requires in
    IfOk-weaker c.into_edits.result _ _
    (λ edits h. h.1 ∙ undone_recorded c.self.inside.log.redo c.args.arena.now c.new-recorder.result c.watch_undone.new.watcher c.new-recorder.ensures fit c.watch_undone.ensures.seen h.0
    ∙ ap (λ (l : Log Step). steps_told_back l.redo c.args.arena.now.trees) log)
    c.into_edits.ensures
