use Rattle.edit_steps.proofs.StepLists.{back_fits, forth_fits}
use Rattle.edit_steps.proofs.laws.steps_fit.Goals as goal

pub returns : goal.returns
returns c = record { back = back_fits; forth = forth_fits }
