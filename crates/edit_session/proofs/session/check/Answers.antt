use Rattle.std.proofs.Common.{sym, ap, ◌∙◌, subst}
use Rattle.edit_session.proofs.Runs.{checked_answered, checked_wanted}
use Rattle.step_text.specs.PageGrammar.Reading.{page_reading}
use Rattle.edit_session.specs.Transcript.{checked, numbers_line, transcript_of}
use Rattle.edit_session.specs.Following.{Follows}
use Rattle.edit_session.specs.declared.session.Status.TheVariants.{Done}
use Rattle.edit_session.proofs.session.check.Goals as goal

pub returns-in-Err : goal.returns-in-Err
returns-in-Err g c = c.refuse_page.ensures (checked (page_reading 200 2000000 c.args.input.now)) (checked_answered (page_reading 200 2000000 c.args.input.now)) (checked_wanted 2000000 c.args.input.now c.in-Err.fault _ c.in-Err.ensures.answer)

pub returns-in-Ok : goal.returns-in-Ok
returns-in-Ok g c = subst (λ w. Follows w (g.O.Sink.taken c.args.output.now) (g.O.Sink.taken c.accept.new.output) (g.O.Sink.faults c.args.output.now) (g.O.Sink.faults c.accept.new.output) c.accept.result) (ap (λ t. transcript_of Done (numbers_line t)) c.in-Ok.ensures.answer.2.trees ∙ sym (ap checked c.in-Ok.ensures.answer.1)) c.accept.ensures
