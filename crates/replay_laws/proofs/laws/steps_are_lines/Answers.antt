use Rattle.replay_laws.proofs.LogLines.{steps_are_lines, lines_replay}
use Rattle.replay_laws.proofs.laws.steps_are_lines.Goals as goal

pub returns-clause-lines : goal.returns-clause-lines
returns-clause-lines c = steps_are_lines

pub returns-clause-replayed : goal.returns-clause-replayed
returns-clause-replayed c = lines_replay
