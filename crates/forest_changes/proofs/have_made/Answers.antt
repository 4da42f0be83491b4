use Rattle.forest_changes.proofs.ManyLeaves.{has_made}
use Rattle.forest_changes.proofs.have_made.Goals as goal

pub returns : goal.returns
returns c = has_made
