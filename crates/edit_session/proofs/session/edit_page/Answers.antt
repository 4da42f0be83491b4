use Rattle.edit_session.proofs.Runs.{follows_nothing}
use Rattle.edit_session.proofs.session.edit_page.Goals as goal

pub returns-in_default : goal.returns-in_default
returns-in_default g c = follows_nothing _ _ _ tt
