use Rattle.selection_laws.proofs.Holders.{host_holds}
use Rattle.selection_laws.proofs.hosts.hosts_hold.Goals as goal

pub returns : goal.returns
returns c = λ s once h is. host_holds s once h is
