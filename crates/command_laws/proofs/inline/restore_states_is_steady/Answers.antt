use Rattle.command_laws.proofs.RestoringRuns.{steady_restore_states}
use Rattle.command_laws.proofs.inline.restore_states_is_steady.Goals as goal

pub returns : goal.returns
returns c = λ list. steady_restore_states list
