use Rattle.making_laws.proofs.KnownPages.{own_known}
use Rattle.making_laws.proofs.known.own_are_known.Goals as goal

pub returns : goal.returns
returns c = own_known
