use Rattle.std.proofs.Common.{◌+◌, take, drop, sym, ap, ◌∙◌, arith}
use Rattle.step_text.specs.Applying.{labelled}
use Rattle.edit_session.specs.Block.{lines_of}
use Rattle.edit_session.specs.Replay.{replayed, lines_replayed}
use Rattle.edit_session.proofs.Runs.{some_left}
use Rattle.edit_session.proofs.ReplayLines.{replay_starts, replay_more, replay_done, no_lines, line_told}
use Rattle.edit_session.proofs.replay.replay_lines.Goals as goal

pub loop-rest-init : goal.loop-rest-init
loop-rest-init c = record {
  ends = replay_starts (lines_of c.args.lines.now) (labelled c.args.page.now);
  entries = omega arith;
  steps = omega arith;
  within = omega arith;
}

pub returns-in-Err : goal.returns-in-Err
returns-in-Err c =
    let at = c.loop-rest in
    let r = replayed at.tally (labelled at.page) in
    let line = take c.line_end-end.result at.rest.now in
    let later = lines_of (drop (c.line_end-end.result + 1) at.rest.now) in
    let parts = c.line_end-end.ensures.line (some_left _ at.rest.now c.is_empty.ensures c.loop-rest-test.true) in
    line_told c.in-Err.fault at.number line later r _ c.in-Err.ensures.told (ap (λ lines. lines_replayed at.number lines r) (sym parts) ∙ at.invariant.ends)

pub loop-rest-preserved : goal.loop-rest-preserved
loop-rest-preserved c =
    let at = c.loop-rest in
    let r = replayed at.tally (labelled at.page) in
    let after = replayed c.in-Ok.next (labelled c.replay_line.new.page) in
    let line = take c.line_end-end.result at.rest.now in
    let later = lines_of (drop (c.line_end-end.result + 1) at.rest.now) in
    let some = some_left _ at.rest.now c.is_empty.ensures c.loop-rest-test.true in
    let parts = c.line_end-end.ensures.line some in
    record {
      ends = (
          ap (λ text. lines_replayed (at.number + 1) (lines_of text) after) c.after_line-rest.ensures.value
          ∙ sym (replay_more at.number line later r after c.in-Ok.ensures.told)
          ∙ ap (λ lines. lines_replayed at.number lines r) (sym parts) ∙ at.invariant.ends);
      entries = omega (arith, c.in-Ok.ensures.entries, at.invariant.entries);
      steps = omega (arith, c.in-Ok.ensures.steps, at.invariant.steps);
      within = omega (arith, c.after_line-rest.ensures.shorter some, at.invariant.within);
    }

pub returns : goal.returns
returns c =
    let at = c.loop-rest in
    let r = replayed at.tally (labelled at.page) in
    sym at.invariant.ends
    ∙ ap (λ lines. lines_replayed at.number lines r) (no_lines _ at.rest.now c.is_empty.ensures c.loop-rest-test.false)
    ∙ replay_done at.number r
