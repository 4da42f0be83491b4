use Rattle.std.specs.Prelude.{if◌then◌else◌}
use Rattle.edit_laws.proofs.HostRuns.{stays_if, in_host, of_host}
use Rattle.edit_laws.proofs.in_host.chooses_stay.Goals as goal

pub returns : goal.returns
returns c = λ _ kept b m n on off. in_host kept (if b then m else n) (λ outer h. stays_if outer h kept b m n (of_host kept m on outer h) (of_host kept n off outer h))
