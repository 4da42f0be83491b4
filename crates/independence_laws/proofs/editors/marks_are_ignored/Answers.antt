use Rattle.independence_laws.proofs.Outcomes.{marks_ignored}
use Rattle.independence_laws.proofs.editors.marks_are_ignored.Goals as goal

pub returns : goal.returns
returns c = marks_ignored
