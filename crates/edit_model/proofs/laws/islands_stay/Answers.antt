use Rattle.edit_model.proofs.IslandRuns.{islands_stay}
use Rattle.edit_model.proofs.laws.islands_stay.Goals as goal

pub returns : goal.returns
returns c = λ s t h keeping is hosted r l island. islands_stay s t h keeping is hosted r l island
