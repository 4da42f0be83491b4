use Rattle.making_laws.proofs.LinkingRuns.{tame_unlink}
use Rattle.making_laws.proofs.inline.unlink_is_tame.Goals as goal

pub returns : goal.returns
returns c = tame_unlink
