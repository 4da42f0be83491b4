use Rattle.std.specs.Str.{chars}
use Rattle.edit_model.specs.HtmlNames.Commands.{command_named}
use Rattle.hedit_c.specs.Calls.{is_set, range_of}
use Rattle.hedit_c.proofs.editor.acts.exec_with.Goals as goal

pub returns-in_default-clause-promises : goal.returns-in_default-clause-promises
returns-in_default-clause-promises c = c.promises_as_is.ensures (range_of c.args.options.now) (is_set c.args.options.now.joined) (command_named c.args.name.now) (chars c.args.value.now)

pub returns-in_default-2-clause-promises : goal.returns-in_default-2-clause-promises
returns-in_default-2-clause-promises c = c.promises_as_is.ensures (range_of c.args.options.now) (is_set c.args.options.now.joined) (command_named c.args.name.now) (chars c.args.value.now)

pub returns-in-Ok-None-clause-promises : goal.returns-in-Ok-None-clause-promises
returns-in-Ok-None-clause-promises c = c.promises_as_is.ensures (range_of c.args.options.now) (is_set c.args.options.now.joined) (command_named c.args.name.now) (chars c.args.value.now)

pub returns-in-Err-clause-promises : goal.returns-in-Err-clause-promises
returns-in-Err-clause-promises c = c.promises_as_is.ensures (range_of c.args.options.now) (is_set c.args.options.now.joined) (command_named c.args.name.now) (chars c.args.value.now)
