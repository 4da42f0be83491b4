use Rattle.step_text.proofs.Steps.{label_if}
use Rattle.step_text.proofs.read.read_label.Goals as goal

pub returns-clause-sound : goal.returns-clause-sound
returns-clause-sound c = label_if c.args.text.now c.read_number.result c.read_number.ensures
