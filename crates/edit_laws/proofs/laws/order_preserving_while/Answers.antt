use Rattle.edit_laws.proofs.OrderPreserving.{order_preserving_while}
use Rattle.edit_laws.proofs.laws.order_preserving_while.Goals as goal

pub returns : goal.returns
returns c = λ _ n test body a p. order_preserving_while n test body a p
