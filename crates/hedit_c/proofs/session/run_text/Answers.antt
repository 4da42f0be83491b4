use Rattle.hedit_c.proofs.Runs.{ran}
use Rattle.hedit_c.proofs.session.run_text.Goals as goal

pub returns : goal.returns
returns c = ran _ _ _ _ c.new.ensures.items c.run_session-status.ensures.told
