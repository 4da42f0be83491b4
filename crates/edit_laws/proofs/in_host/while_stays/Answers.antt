use Rattle.edit_model.specs.Run.{while_at_most}
use Rattle.edit_laws.proofs.HostRuns.{stays_while, in_host, of_host}
use Rattle.edit_laws.proofs.in_host.while_stays.Goals as goal

pub returns : goal.returns
returns c = λ _ kept n test body a each. in_host kept (while_at_most n test body a) (λ outer h. stays_while outer h kept n test body a (λ x. of_host kept (body x) (each x) outer h))
