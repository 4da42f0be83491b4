use Rattle.command_laws.proofs.BlockRuns.{steady_justify}
use Rattle.command_laws.proofs.blocks.justify_is_steady.Goals as goal

pub returns : goal.returns
returns c = λ v. steady_justify v
