use Rattle.command_laws.proofs.ErasingRuns.{steady_delete_selection}
use Rattle.command_laws.proofs.deletion.delete_selection_is_steady.Goals as goal

pub returns : goal.returns
returns c = steady_delete_selection
