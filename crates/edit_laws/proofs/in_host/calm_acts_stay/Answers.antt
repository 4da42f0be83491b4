use Rattle.edit_model.specs.Run.{act}
use Rattle.edit_laws.proofs.HostRuns.{calm_act, stays_calm, in_host}
use Rattle.edit_laws.proofs.in_host.calm_acts_stay.Goals as goal

pub returns : goal.returns
returns c = λ _ kept a tells calm. in_host kept (act a tells) (λ outer h. stays_calm outer h kept (act a tells) (calm_act a tells calm))
