use Rattle.making_laws.proofs.RestoringRuns.{tame_restore_states}
use Rattle.making_laws.proofs.inline.restore_states_is_tame.Goals as goal

pub returns : goal.returns
returns c = λ x. tame_restore_states x
