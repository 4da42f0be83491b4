use Rattle.edit_steps.proofs.StepLists.{go_back, go_forth}
use Rattle.edit_steps.proofs.laws.steps_go_on.Goals as goal

pub returns : goal.returns
returns c = record { back = go_back; forth = go_forth }
