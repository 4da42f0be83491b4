use Rattle.edit_model.specs.Run.{◌>>=◌}
use Rattle.edit_laws.proofs.HostRuns.{stays_bind, in_host, of_host}
use Rattle.edit_laws.proofs.in_host.follows_stay.Goals as goal

pub returns : goal.returns
returns c = λ _ kept m k first next. in_host kept (m >>= k) (λ outer h. stays_bind outer h kept m k (of_host kept m first outer h) (λ a. of_host kept (k a) (next a) outer h))
