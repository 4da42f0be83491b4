use Rattle.edit_engine.proofs.Refusing.{refusals_leave}
use Rattle.edit_engine.proofs.laws.refusals_leave_the_state.Goals as goal

pub returns : goal.returns
returns c = refusals_leave
