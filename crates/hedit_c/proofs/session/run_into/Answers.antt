use Rattle.hedit_c.proofs.Runs.{replies}
use Rattle.hedit_c.proofs.session.run_into.Goals as goal

pub returns : goal.returns
returns c =
    replies _ _ _ _ _ c.run_text.ensures c.answer.ensures.gave_up c.answer.ensures.memory c.answer.ensures.told
