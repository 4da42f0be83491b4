use Rattle.inline_commands.specs.ValueCommands.{apply_value}
use Rattle.edit_laws.proofs.HostRuns.{in_host}
use Rattle.selection_laws.proofs.StayingValues.{stays_apply_value}
use Rattle.selection_laws.proofs.inline.apply_value_stays.Goals as goal

pub returns : goal.returns
returns c = λ scratched c v. in_host scratched (apply_value c v) (λ outer h. stays_apply_value outer h scratched c v)
