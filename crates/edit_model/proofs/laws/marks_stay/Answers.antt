use Rattle.edit_model.proofs.Apart.{marks_along}
use Rattle.edit_model.proofs.laws.marks_stay.Goals as goal

pub returns : goal.returns
returns c = λ s t r is confined. marks_along r is confined
