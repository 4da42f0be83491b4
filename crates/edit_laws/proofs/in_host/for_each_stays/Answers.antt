use Rattle.edit_model.specs.Run.{for_each}
use Rattle.edit_laws.proofs.HostRuns.{stays_each, in_host, of_host}
use Rattle.edit_laws.proofs.in_host.for_each_stays.Goals as goal

pub returns : goal.returns
returns c = λ _ kept xs f each. in_host kept (for_each xs f) (λ outer h. stays_each outer h kept xs f (λ x. of_host kept (f x) (each x) outer h))
