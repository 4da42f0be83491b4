use Rattle.edit_laws.proofs.SteadyRuns.{steady_split}
use Rattle.edit_laws.proofs.steady.split_texts_steady.Goals as goal

pub returns : goal.returns
returns c = λ n at. steady_split n at
