use Rattle.inline_value.proofs.Selecting.{keeps_extended}
use Rattle.text_deletion.proofs.erasing.extend.Goals as goal

pub returns-clause-keeps : goal.returns-clause-keeps
returns-clause-keeps c = keeps_extended c.args.doc.now c.extend.new.self c.args.focus c.extend.ensures
