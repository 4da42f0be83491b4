use Rattle.edit_laws.proofs.Subsequences.{keeps_trans}
use Rattle.edit_laws.proofs.laws.order_follows.Goals as goal

pub returns : goal.returns
returns c = λ s t u p q. keeps_trans p q
