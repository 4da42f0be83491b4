use Rattle.independence_laws.proofs.Outcomes.{marks_ignored_at_ranges}
use Rattle.independence_laws.proofs.editors.marks_are_ignored_at_ranges.Goals as goal

pub returns : goal.returns
returns c = marks_ignored_at_ranges
