use Rattle.edit_laws.proofs.HostAtRest.{selection_in_host}
use Rattle.edit_laws.proofs.commands.selection_stays_in_host_at_rest.Goals as goal

pub returns : goal.returns
returns c = λ _ s h keeping scratched m is whole none hosted inside run. selection_in_host s h keeping scratched is whole none hosted m inside run
