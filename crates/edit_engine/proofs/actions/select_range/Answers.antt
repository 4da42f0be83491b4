use Rattle.inline_value.proofs.Selecting.{keeps_selected}
use Rattle.edit_engine.proofs.actions.select_range.Goals as goal

pub returns-clause-keeps : goal.returns-clause-keeps
returns-clause-keeps c = keeps_selected c.args.doc.now c.select.new.self c.args.range.anchor c.args.range.focus c.select.ensures
