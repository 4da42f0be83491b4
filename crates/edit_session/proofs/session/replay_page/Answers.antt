use Rattle.step_text.specs.PageGrammar.Reading.{page_reading}
use Rattle.edit_session.specs.Block.{lines_of}
use Rattle.edit_session.specs.Transcript.{replayed_on}
use Rattle.edit_session.proofs.Runs.{replayed_answered, replayed_wanted, page_labelled}
use Rattle.edit_session.proofs.session.replay_page.Goals as goal

pub returns-in-Err : goal.returns-in-Err
returns-in-Err g c =
    let r = page_reading 200 2000000 c.args.page.now in
    let lines = lines_of c.args.steps.now in
    c.refuse_page.ensures (replayed_on lines r) (replayed_answered lines r) (replayed_wanted lines c.args.page.now c.in-Err.fault _ c.in-Err.ensures.answer)

pub returns-in-Ok : goal.returns-in-Ok
returns-in-Ok g c = rw (c.in-Ok.ensures.answer.1, ← (page_labelled c.in-Ok.arena c.in-Ok.ensures.answer.0 c.in-Ok.ensures.answer.2)) c.replay_steps.ensures
