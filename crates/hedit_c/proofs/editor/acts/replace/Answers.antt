use Rattle.std.proofs.Common.{Some, false}
use Rattle.std.specs.Str.{chars}
use Rattle.edit_model.specs.HtmlNames.declared.commands.Command.TheVariants.{InsertText}
use Rattle.edit_engine.specs.Places.{pair_from}
use Rattle.hedit_c.proofs.editor.acts.replace.Goals as goal

pub returns-in-Err-clause-promises : goal.returns-in-Err-clause-promises
returns-in-Err-clause-promises c = c.promises_as_is.ensures (Some (pair_from c.args.anchor c.args.focus)) false (Some InsertText) (chars c.args.text.now)
