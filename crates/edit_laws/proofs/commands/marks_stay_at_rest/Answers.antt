use Rattle.edit_laws.proofs.Resting.{marks_at_rest}
use Rattle.edit_laws.proofs.commands.marks_stay_at_rest.Goals as goal

pub returns : goal.returns
returns c = λ s t host keeping is r. marks_at_rest s t host keeping is r
