use Rattle.replay_laws.proofs.Bytes.{session_logs_replay}
use Rattle.replay_laws.proofs.laws.session_logs_replay.Goals as goal

pub returns : goal.returns
returns c = session_logs_replay
