use Rattle.making_laws.proofs.KnownPages.{none_comes}
use Rattle.making_laws.proofs.known.none_comes.Goals as goal

pub returns : goal.returns
returns c = none_comes
