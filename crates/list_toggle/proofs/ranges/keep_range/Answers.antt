use Rattle.inline_value.proofs.Selecting.{keeps_scratched}
use Rattle.list_toggle.proofs.ranges.keep_range.Goals as goal

pub returns-in-Some-clause-keeps : goal.returns-in-Some-clause-keeps
returns-in-Some-clause-keeps c = keeps_scratched c.args.doc.now c.set_scratch.new.self _ c.set_scratch.ensures
