use Rattle.edit_laws.proofs.OrderPreserving.{order_preserving_answer}
use Rattle.edit_laws.proofs.laws.order_preserving_answers.Goals as goal

pub returns : goal.returns
returns c = λ _ a. order_preserving_answer a
