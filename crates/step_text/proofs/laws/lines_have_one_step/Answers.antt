use Rattle.step_text.proofs.Steps.{one_step}
use Rattle.step_text.proofs.laws.lines_have_one_step.Goals as goal

pub returns : goal.returns
returns c = one_step
