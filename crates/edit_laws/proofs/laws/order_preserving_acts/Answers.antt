use Rattle.edit_laws.proofs.OrderPreserving.{order_preserving_act}
use Rattle.edit_laws.proofs.laws.order_preserving_acts.Goals as goal

pub returns : goal.returns
returns c = λ _ a tells quiet. order_preserving_act a tells quiet
