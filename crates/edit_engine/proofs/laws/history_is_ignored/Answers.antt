use Rattle.edit_engine.proofs.Ignoring.{history_ignored}
use Rattle.edit_engine.proofs.laws.history_is_ignored.Goals as goal

pub returns : goal.returns
returns c = history_ignored
