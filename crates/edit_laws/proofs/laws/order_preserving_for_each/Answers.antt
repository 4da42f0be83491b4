use Rattle.edit_laws.proofs.OrderPreserving.{order_preserving_each}
use Rattle.edit_laws.proofs.laws.order_preserving_for_each.Goals as goal

pub returns : goal.returns
returns c = λ _ xs f p. order_preserving_each xs f p
