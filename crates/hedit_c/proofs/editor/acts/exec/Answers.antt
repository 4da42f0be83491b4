use Rattle.std.proofs.Common.{None}
use Rattle.std.specs.Str.{chars}
use Rattle.edit_model.specs.HtmlNames.Commands.{command_named}
use Rattle.hedit_c.proofs.editor.acts.exec.Goals as goal

pub returns-in_default-clause-promises : goal.returns-in_default-clause-promises
returns-in_default-clause-promises c = c.promises_as_is.ensures None c.args.joined (command_named c.args.name.now) (chars c.args.value.now)
