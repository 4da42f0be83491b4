use Rattle.replay_laws.proofs.Clauses.{clauses_are_calls}
use Rattle.replay_laws.proofs.laws.clauses_are_calls.Goals as goal

pub returns : goal.returns
returns c = clauses_are_calls
