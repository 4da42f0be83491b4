use Rattle.std.proofs.Common.{None, false}
use Rattle.std.specs.Str.{chars}
use Rattle.edit_model.specs.HtmlNames.Commands.{command_named}
use Rattle.hedit_c.proofs.editor.acts.exec_past.Goals as goal

pub returns-in-Err-clause-promises : goal.returns-in-Err-clause-promises
returns-in-Err-clause-promises c = c.promises_as_is.ensures None false (command_named c.args.name.now) (chars c.args.value.now)
