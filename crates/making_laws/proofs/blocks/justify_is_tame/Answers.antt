use Rattle.making_laws.proofs.BlockRuns.{tame_justify}
use Rattle.making_laws.proofs.blocks.justify_is_tame.Goals as goal

pub returns : goal.returns
returns c = λ x. tame_justify x
