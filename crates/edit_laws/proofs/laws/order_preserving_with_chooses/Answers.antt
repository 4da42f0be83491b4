use Rattle.edit_laws.proofs.NewElements.{with_if}
use Rattle.edit_laws.proofs.laws.order_preserving_with_chooses.Goals as goal

pub returns : goal.returns
returns c = λ _ x b m n p q. with_if x b m n p q
