use Rattle.std.proofs.Common.{◌≡◌, ◌+◌, ◌<◌, ◌≤◌, length}
use Rattle.step_text.specs.Applying.{labelled}
use Rattle.edit_session.specs.Block.{lines_of}
use Rattle.edit_session.specs.Replay.{replayed, lines_replayed, replay}
use Rattle.edit_session.proofs.replay.replay_lines.Given as goal

-- the steps so far are applied, and the rest leads to the same end
abbrev pub invariant-loop-rest : goal.invariant-loop-rest
invariant-loop-rest l = record {
  ends : lines_replayed l.number (lines_of l.rest) (replayed l.tally (labelled l.page)) ≡ replay (lines_of l.lines) (labelled l.initial.page);
  entries : l.tally.entries < l.number;
  steps : l.tally.steps < l.number;
  within : l.number + length l.rest ≤ length l.lines + 1;
}

abbrev pub decreases-loop-rest : goal.decreases-loop-rest
decreases-loop-rest l = length l.rest
