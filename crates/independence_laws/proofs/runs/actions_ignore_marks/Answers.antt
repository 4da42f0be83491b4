use Rattle.independence_laws.proofs.UnmarkedEdits.{acted_same}
use Rattle.independence_laws.proofs.runs.actions_ignore_marks.Goals as goal

pub returns : goal.returns
returns c = acted_same
