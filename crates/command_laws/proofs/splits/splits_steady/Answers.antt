use Rattle.command_laws.proofs.SteadySplits.{steady_split}
use Rattle.command_laws.proofs.splits.splits_steady.Goals as goal

pub returns : goal.returns
returns c = λ list. steady_split list
