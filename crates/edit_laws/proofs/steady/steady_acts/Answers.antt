use Rattle.edit_laws.proofs.SteadyRuns.{steady_act}
use Rattle.edit_laws.proofs.steady.steady_acts.Goals as goal

pub returns : goal.returns
returns c = λ _ a tells h. steady_act a tells h
