use Rattle.edit_model.specs.Run.{look}
use Rattle.edit_laws.proofs.HostRuns.{stays_look_at, in_host, of_host}
use Rattle.edit_laws.proofs.in_host.looks_stay.Goals as goal

pub returns : goal.returns
returns c = λ _ kept k each. in_host kept (look k) (λ outer h. stays_look_at outer h kept k (λ s. of_host kept (k s) (each s) outer h))
