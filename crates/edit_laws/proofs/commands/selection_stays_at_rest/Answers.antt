use Rattle.edit_laws.proofs.Selections.{selection_at_rest}
use Rattle.edit_laws.proofs.commands.selection_stays_at_rest.Goals as goal

pub returns : goal.returns
returns c = λ s t host keeping r steady some. selection_at_rest s t host keeping r steady some
