use Rattle.edit_model.proofs.OutsideRuns.{outside_along}
use Rattle.edit_model.proofs.laws.outside_stays.Goals as goal

pub returns : goal.returns
returns c = λ s t r is confined. (let k = outside_along r is confined in (k.same, k.confined))
