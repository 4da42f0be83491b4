use Rattle.edit_laws.proofs.SteadyRuns.{steady_each}
use Rattle.edit_laws.proofs.steady.steady_for_each.Goals as goal

pub returns : goal.returns
returns c = λ _ xs f h. steady_each xs f h
