use Rattle.making_laws.proofs.KnownPages.{commands_make_known}
use Rattle.making_laws.proofs.known.commands_make_known.Goals as goal

pub returns : goal.returns
returns c = commands_make_known
