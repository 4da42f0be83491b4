use Rattle.edit_laws.proofs.NewElements.{with_bind}
use Rattle.edit_laws.proofs.laws.order_preserving_with_follows.Goals as goal

pub returns : goal.returns
returns c = λ _ x m k p q. with_bind x m k p q
