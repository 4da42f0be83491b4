use Rattle.edit_laws.proofs.OrderPreserving.{order_preserving_if}
use Rattle.edit_laws.proofs.laws.order_preserving_chooses.Goals as goal

pub returns : goal.returns
returns c = λ _ b m n p q. order_preserving_if b m n p q
