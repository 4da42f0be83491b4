use Rattle.edit_laws.proofs.NewElements.{with_given}
use Rattle.edit_laws.proofs.laws.order_preserving_with_given.Goals as goal

pub returns : goal.returns
returns c = λ _ x o n f p q. with_given x o n f p q
