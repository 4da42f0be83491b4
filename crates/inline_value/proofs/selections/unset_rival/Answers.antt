use Rattle.inline_value.proofs.Selecting.{keeps_set}
use Rattle.inline_value.proofs.selections.unset_rival.Goals as goal

pub returns-in-Subscript-clause-keeps : goal.returns-in-Subscript-clause-keeps
returns-in-Subscript-clause-keeps c = keeps_set c.args.doc.now c.set_setting.new.self _ _ c.set_setting.ensures

pub returns-in-Superscript-clause-keeps : goal.returns-in-Superscript-clause-keeps
returns-in-Superscript-clause-keeps c = keeps_set c.args.doc.now c.set_setting-in-Superscript.new.self _ _ c.set_setting-in-Superscript.ensures
