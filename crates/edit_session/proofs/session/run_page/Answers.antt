use Rattle.step_text.specs.PageGrammar.Reading.{page_reading}
use Rattle.edit_session.specs.Block.{lines_of}
use Rattle.edit_session.specs.Words.{denied_in, limits_in}
use Rattle.edit_session.specs.Transcript.{acted}
use Rattle.edit_session.proofs.Runs.{acted_answered, acted_wanted, alone, page_replies}
use Rattle.edit_session.proofs.session.run_page.Goals as goal

pub returns-in-Err : goal.returns-in-Err
returns-in-Err g c =
    let r = page_reading 200 c.args.limits.cap c.args.page.now in
    let acts = lines_of c.args.acts.now in
    c.refuse_page.ensures (acted (limits_in c.args.limits) acts r) (acted_answered (limits_in c.args.limits) acts r) (acted_wanted (limits_in c.args.limits) acts c.args.page.now c.in-Err.fault _ c.in-Err.ensures.answer)

pub edit_page-requires-clause-loose : goal.edit_page-requires-clause-loose
edit_page-requires-clause-loose g c = alone c.in-Ok.arena c.args.limits.cap c.in-Ok.ensures.answer.0 c.in-Ok.ensures.answer.2

pub returns-in-Ok : goal.returns-in-Ok
returns-in-Ok g c = rw (c.in-Ok.ensures.answer.1, ← (page_replies (denied_in c.args.limits.denied) c.in-Ok.arena c.args.limits.cap c.args.limits.undo c.in-Ok.ensures.answer.0 (lines_of c.args.acts.now) c.in-Ok.ensures.answer.2)) c.edit_page.ensures
