use Rattle.edit_model.proofs.Things.{things_stay}
use Rattle.edit_model.proofs.laws.things_stay.Goals as goal

pub returns : goal.returns
returns c = λ s t r is keeps l name inside named thing. things_stay l name thing r is keeps inside named
