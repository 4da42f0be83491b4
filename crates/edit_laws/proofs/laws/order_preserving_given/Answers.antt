use Rattle.edit_laws.proofs.OrderPreserving.{order_preserving_given}
use Rattle.edit_laws.proofs.laws.order_preserving_given.Goals as goal

pub returns : goal.returns
returns c = λ _ o n f p q. order_preserving_given o n f p q
