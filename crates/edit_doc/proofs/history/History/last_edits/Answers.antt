use Rattle.std.proofs.Common.{◌≡◌, ◌∙◌, sym, ap, subst}
use Rattle.std.proofs.lemmas.Result.{IfOk-weaker}
use Rattle.step_edits.specs.UndoLog.Log.{Log, FitsUndo}
use Rattle.step_edits.specs.EditSteps.declared.step.Step.{Step}
use Rattle.step_edits.specs.EditSteps.Step.{StepFits, step_applied}
use Rattle.edit_doc.specs.Logging.{steps_logged}
use Rattle.edit_doc.specs.Trail.{Trail}
use Rattle.edit_doc.proofs.LoggedEdits.{last_kept}
use Rattle.edit_doc.proofs.history.History.last_edits.Goals as goal

pub returns-clause-read : goal.returns-clause-read
returns-clause-read c =
    let log : c.self.inside.log ≡ c.args.self.now.log = ap (λ (t : Trail). t.log) c.self.view_is in
    let fit = subst (λ (l : Log Step). FitsUndo step_applied StepFits l.undo c.args.arena.now) (sym log) c.requires.fit in
    IfOk-weaker c.into_edits.result _ _
    (λ edits h. h.1 ∙ last_kept c.self.inside.log.undo c.args.arena.now c.new-recorder.result c.watch_last.new.watcher c.new-recorder.ensures fit c.watch_last.ensures.seen h.0
    ∙ ap (λ (l : Log Step). steps_logged l.undo c.args.arena.now.trees) log)
    c.into_edits.ensures
