use Rattle.inline_value.proofs.Selecting.{keeps_set}
use Rattle.inline_commands.proofs.restoring.set_override.Goals as goal

pub returns-in-On-clause-keeps : goal.returns-in-On-clause-keeps
returns-in-On-clause-keeps c = keeps_set c.args.doc.now c.set_setting.new.self _ _ c.set_setting.ensures

pub returns-in-Off-clause-keeps : goal.returns-in-Off-clause-keeps
returns-in-Off-clause-keeps c = keeps_set c.args.doc.now c.set_setting-in-Off.new.self _ _ c.set_setting-in-Off.ensures

pub returns-in_ok-value-in-Text-clause-keeps : goal.returns-in_ok-value-in-Text-clause-keeps
returns-in_ok-value-in-Text-clause-keeps c = keeps_set c.args.doc.now c.set_setting-in-Text.new.self _ _ c.set_setting-in-Text.ensures
