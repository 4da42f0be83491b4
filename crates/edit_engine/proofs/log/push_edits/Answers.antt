use Rattle.std.proofs.Common.{◌++◌, sym, ap, ◌∙◌}
use Rattle.edit_engine.specs.Logs.{step_line}
use Rattle.edit_engine.proofs.Logging.{edit_text, edit_texts, written_more, written_all}
use Rattle.edit_engine.proofs.log.push_edits.Goals as goal

pub loop-edit-preserved : goal.loop-edit-preserved
loop-edit-preserved c =
    let next = c.in-Some.ensures.steps in
    written_more edit_text _ _ _ _ _ _ _ c.in-Some.edit c.loop-edit.invariant next.0 next.1 (c.in_ok-push_line.ensures ∙ ap (λ step. c.loop-edit.bytes.items ++ step_line step) c.step_of.ensures)

pub returns : goal.returns
returns c =
    written_all edit_text _ _ _ _ _ _ c.loop-edit.invariant c.in-None.ensures.steps.0 c.into_iter-edit-iterator.ensures.into_iter_gives.0
    ∙ ap (λ text. c.args.bytes.now.items ++ text) (sym (edit_texts c.args.edits.items))
