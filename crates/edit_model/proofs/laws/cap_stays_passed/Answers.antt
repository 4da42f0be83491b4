use Rattle.edit_model.specs.State.{IsPastCap}
use Rattle.edit_model.proofs.Steps.{along, over_acted}
use Rattle.edit_model.proofs.laws.cap_stays_passed.Goals as goal

pub returns : goal.returns
returns c = λ s t r over. along IsPastCap over_acted r over
