use Rattle.edit_laws.proofs.HostAtRest.{range_in_host}
use Rattle.edit_laws.proofs.commands.range_stays_in_host_at_rest.Goals as goal

pub returns : goal.returns
returns c = λ _ s h keeping scratched range m is whole none hosted placed inside run. range_in_host s h keeping scratched range m is whole none hosted placed inside run
