use Rattle.edit_laws.proofs.NewElements.{with_insert}
use Rattle.edit_laws.proofs.laws.order_preserving_with_inserts.Goals as goal

pub returns : goal.returns
returns c = λ p b x. with_insert p b x
