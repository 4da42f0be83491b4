use Rattle.edit_model.specs.Run.{given}
use Rattle.edit_laws.proofs.HostRuns.{stays_given, in_host, of_host}
use Rattle.edit_laws.proofs.in_host.given_stays.Goals as goal

pub returns : goal.returns
returns c = λ _ kept o n f none some. in_host kept (given o n f) (λ outer h. stays_given outer h kept o n f (of_host kept n none outer h) (λ a. of_host kept (f a) (some a) outer h))
