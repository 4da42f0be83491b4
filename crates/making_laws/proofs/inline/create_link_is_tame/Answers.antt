use Rattle.making_laws.proofs.LinkingRuns.{tame_create_link}
use Rattle.making_laws.proofs.inline.create_link_is_tame.Goals as goal

pub returns : goal.returns
returns c = λ x. tame_create_link x
