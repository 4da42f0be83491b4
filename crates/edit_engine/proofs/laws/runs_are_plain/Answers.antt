use Rattle.edit_engine.proofs.PlainRuns.{runs_are_plain}
use Rattle.edit_engine.proofs.laws.runs_are_plain.Goals as goal

pub returns : goal.returns
returns c = runs_are_plain
