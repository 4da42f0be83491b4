use Rattle.edit_model.proofs.Commands.{takes_nothing_on}
use Rattle.edit_model.proofs.laws.kept_stays.Goals as goal

pub returns : goal.returns
returns c = λ s t r keeps. takes_nothing_on r keeps
