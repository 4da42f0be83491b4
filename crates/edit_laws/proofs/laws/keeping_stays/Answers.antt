use Rattle.edit_laws.proofs.QuietActions.{keeping_along}
use Rattle.edit_laws.proofs.laws.keeping_stays.Goals as goal

pub returns : goal.returns
returns c = λ s t r is. keeping_along r is
