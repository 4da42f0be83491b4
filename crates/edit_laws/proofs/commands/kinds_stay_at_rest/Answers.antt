use Rattle.edit_laws.proofs.StayingKinds.{kinds_at_rest}
use Rattle.edit_laws.proofs.commands.kinds_stay_at_rest.Goals as goal

pub returns : goal.returns
returns c = λ s t host keeping is r. kinds_at_rest s t host keeping is r
