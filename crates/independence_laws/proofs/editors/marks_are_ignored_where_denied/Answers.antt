use Rattle.independence_laws.proofs.Outcomes.{marks_ignored_where_denied}
use Rattle.independence_laws.proofs.editors.marks_are_ignored_where_denied.Goals as goal

pub returns : goal.returns
returns c = marks_ignored_where_denied
