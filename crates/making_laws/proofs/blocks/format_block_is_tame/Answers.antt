use Rattle.making_laws.proofs.BlockRuns.{tame_format_block}
use Rattle.making_laws.proofs.blocks.format_block_is_tame.Goals as goal

pub returns : goal.returns
returns c = λ x. tame_format_block x
