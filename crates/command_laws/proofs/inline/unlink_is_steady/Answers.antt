use Rattle.command_laws.proofs.LinkingRuns.{steady_unlink}
use Rattle.command_laws.proofs.inline.unlink_is_steady.Goals as goal

pub returns : goal.returns
returns c = steady_unlink
