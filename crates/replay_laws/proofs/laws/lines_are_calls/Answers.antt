use Rattle.replay_laws.proofs.SessionCalls.{lines_are_calls}
use Rattle.replay_laws.proofs.laws.lines_are_calls.Goals as goal

pub returns : goal.returns
returns c = lines_are_calls
