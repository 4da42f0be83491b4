use Rattle.caret_laws.proofs.RunTails.{tails_run}
use Rattle.caret_laws.proofs.tails.tails_are_runs.Goals as goal

pub returns : goal.returns
returns c = λ s from end target is may alone. tails_run s from end target is may alone
