use Rattle.edit_model.specs.Run.{answer}
use Rattle.edit_laws.proofs.HostRuns.{stays_answer, in_host}
use Rattle.edit_laws.proofs.in_host.answers_stay.Goals as goal

pub returns : goal.returns
returns c = λ _ kept a. in_host kept (answer a) (λ outer h. stays_answer outer h kept a)
