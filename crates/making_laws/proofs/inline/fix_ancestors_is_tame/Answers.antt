use Rattle.making_laws.proofs.AncestorRuns.{tame_fix_ancestors}
use Rattle.making_laws.proofs.inline.fix_ancestors_is_tame.Goals as goal

pub returns : goal.returns
returns c = λ x. tame_fix_ancestors x
