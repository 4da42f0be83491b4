use Rattle.edit_laws.proofs.NewElements.{with_look}
use Rattle.edit_laws.proofs.laws.order_preserving_with_looks.Goals as goal

pub returns : goal.returns
returns c = λ _ x k p. with_look x k p
