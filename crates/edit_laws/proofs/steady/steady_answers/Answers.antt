use Rattle.edit_laws.proofs.SteadyRuns.{steady_answer}
use Rattle.edit_laws.proofs.steady.steady_answers.Goals as goal

pub returns : goal.returns
returns c = λ _ a. steady_answer a
