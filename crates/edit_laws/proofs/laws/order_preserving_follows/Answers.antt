use Rattle.edit_laws.proofs.OrderPreserving.{order_preserving_bind}
use Rattle.edit_laws.proofs.laws.order_preserving_follows.Goals as goal

pub returns : goal.returns
returns c = λ _ m k p q. order_preserving_bind m k p q
