use Rattle.command_laws.proofs.IndentRuns.{steady_outdent}
use Rattle.command_laws.proofs.indents.outdent_is_steady.Goals as goal

pub returns : goal.returns
returns c = steady_outdent
