use Rattle.replay_laws.proofs.Bytes.{sessions_read_back}
use Rattle.replay_laws.proofs.laws.sessions_read_back.Goals as goal

pub returns : goal.returns
returns c = sessions_read_back
