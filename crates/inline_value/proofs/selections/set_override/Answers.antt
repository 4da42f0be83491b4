use Rattle.inline_value.proofs.Selecting.{keeps_set}
use Rattle.inline_value.proofs.selections.set_override.Goals as goal

pub returns-in-Some-clause-keeps : goal.returns-in-Some-clause-keeps
returns-in-Some-clause-keeps c = keeps_set c.args.doc.now c.set_setting.new.self _ _ c.set_setting.ensures
