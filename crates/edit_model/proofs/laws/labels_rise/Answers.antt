use Rattle.edit_model.proofs.Steps.{next_along}
use Rattle.edit_model.proofs.laws.labels_rise.Goals as goal

pub returns : goal.returns
returns c = λ s t r. next_along r
