use Rattle.edit_session.proofs.Runs.{follows_nothing}
use Rattle.edit_session.proofs.session.act.Goals as goal

pub returns-in-Err-clause-follows : goal.returns-in-Err-clause-follows
returns-in-Err-clause-follows g c = follows_nothing _ _ _ tt
