use Rattle.edit_model.proofs.EditLists.{adds_along, one_each_along}
use Rattle.edit_model.proofs.laws.edits_are_listed.Goals as goal

pub returns : goal.returns
returns c = λ s t r. ((adds_along r).0, one_each_along r)
