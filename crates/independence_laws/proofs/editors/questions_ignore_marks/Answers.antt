use Rattle.independence_laws.proofs.Asking.{questions_ignore}
use Rattle.independence_laws.proofs.editors.questions_ignore_marks.Goals as goal

pub returns : goal.returns
returns c = questions_ignore
