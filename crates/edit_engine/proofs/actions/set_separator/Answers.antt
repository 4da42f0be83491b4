use Rattle.edit_engine.proofs.Keeping.{flags_kept}
use Rattle.edit_engine.proofs.actions.set_separator.Goals as goal

pub returns-clause-keeps : goal.returns-clause-keeps
returns-clause-keeps c = flags_kept c.args.doc.now c.set_flags.new.self _ c.set_flags.ensures
