use Rattle.edit_model.proofs.EditLists.{adds_along}
use Rattle.edit_model.proofs.laws.nodes_are_listed.Goals as goal

pub returns : goal.returns
returns c = λ s t r. (adds_along r).1
