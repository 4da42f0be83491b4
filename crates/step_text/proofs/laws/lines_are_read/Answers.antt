use Rattle.step_text.proofs.SoundSteps.{step_of_line}
use Rattle.step_text.proofs.laws.lines_are_read.Goals as goal

pub returns : goal.returns
returns c = step_of_line
