use Rattle.edit_laws.proofs.Resting.{order_at_rest}
use Rattle.edit_laws.proofs.commands.order_stays_at_rest.Goals as goal

pub returns : goal.returns
returns c = λ s t h keeping is whole hosted r k. order_at_rest s t h keeping is whole hosted r k
