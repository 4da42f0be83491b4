use Rattle.selection_laws.proofs.Holders.{pair_host_holds}
use Rattle.selection_laws.proofs.hosts.hosts_of_pairs_hold.Goals as goal

pub returns : goal.returns
returns c = λ f once pair h is. pair_host_holds f once h pair is
