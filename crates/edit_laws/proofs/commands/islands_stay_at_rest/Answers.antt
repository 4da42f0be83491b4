use Rattle.edit_laws.proofs.Resting.{islands_at_rest}
use Rattle.edit_laws.proofs.commands.islands_stay_at_rest.Goals as goal

pub returns : goal.returns
returns c = λ s t h keeping is whole hosted r leaves l island. islands_at_rest s t h keeping is whole hosted r leaves l island
