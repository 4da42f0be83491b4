use Rattle.inline_commands.specs.Linking.{create_link}
use Rattle.edit_laws.proofs.HostRuns.{in_host}
use Rattle.selection_laws.proofs.StayingValues.{stays_create_link}
use Rattle.selection_laws.proofs.inline.create_link_stays.Goals as goal

pub returns : goal.returns
returns c = λ scratched v. in_host scratched (create_link v) (λ outer h. stays_create_link outer h scratched v)
