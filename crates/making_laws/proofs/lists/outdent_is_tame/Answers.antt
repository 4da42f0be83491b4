use Rattle.making_laws.proofs.IndentRuns.{tame_outdent}
use Rattle.making_laws.proofs.lists.outdent_is_tame.Goals as goal

pub returns : goal.returns
returns c = tame_outdent
