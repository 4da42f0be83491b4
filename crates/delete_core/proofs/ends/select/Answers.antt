use Rattle.inline_value.proofs.Selecting.{keeps_selected}
use Rattle.delete_core.proofs.ends.select.Goals as goal

pub returns-clause-keeps : goal.returns-clause-keeps
returns-clause-keeps c = keeps_selected c.args.doc.now c.select.new.self c.args.anchor c.args.focus c.select.ensures
