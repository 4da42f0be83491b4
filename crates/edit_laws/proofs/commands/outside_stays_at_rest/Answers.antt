use Rattle.edit_laws.proofs.Resting.{outside_at_rest}
use Rattle.edit_laws.proofs.commands.outside_stays_at_rest.Goals as goal

pub returns : goal.returns
returns c = λ s t host keeping is r. outside_at_rest s t host keeping is r
