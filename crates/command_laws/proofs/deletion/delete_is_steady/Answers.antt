use Rattle.command_laws.proofs.DeleteRuns.{steady_delete}
use Rattle.command_laws.proofs.deletion.delete_is_steady.Goals as goal

pub returns : goal.returns
returns c = steady_delete
