use Rattle.inline_value.proofs.Selecting.{keeps_scratched}
use Rattle.text_deletion.proofs.erasing.keep.Goals as goal

pub returns-clause-keeps : goal.returns-clause-keeps
returns-clause-keeps c = keeps_scratched c.args.doc.now c.set_scratch.new.self (record { anchor = c.args.at; focus = c.args.at }) c.set_scratch.ensures
