use Rattle.edit_laws.proofs.NewElements.{order_preserving_new}
use Rattle.edit_laws.proofs.laws.order_preserving_new_elements.Goals as goal

pub returns : goal.returns
returns c = λ _ name attributes k plain p. order_preserving_new name attributes k plain p
