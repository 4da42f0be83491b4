use Rattle.edit_laws.proofs.OrderPreserving.{order_preserving_look}
use Rattle.edit_laws.proofs.laws.order_preserving_looks.Goals as goal

pub returns : goal.returns
returns c = λ _ k p. order_preserving_look k p
