use Rattle.edit_model.proofs.EditLists.{edits_on-trans}
use Rattle.edit_model.proofs.laws.edits_follow.Goals as goal

pub returns : goal.returns
returns c = λ s t u p q. edits_on-trans p q
