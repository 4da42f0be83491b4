use Rattle.edit_session.proofs.Runs.{follows_nothing}
use Rattle.edit_session.proofs.session.refuse_page.Goals as goal

pub returns-in-Memory : goal.returns-in-Memory
returns-in-Memory g c = λ want answered wanted. follows_nothing want _ _ answered
