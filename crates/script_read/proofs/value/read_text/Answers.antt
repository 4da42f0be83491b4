use Rattle.std.proofs.Common.{subst, sym}
use Rattle.script_read.specs.Answers.{Reads}
use Rattle.script_read.proofs.Values.{is_text, no_text}
use Rattle.script_read.proofs.value.read_text.Goals as goal

pub returns-in-Ok : goal.returns-in-Ok
returns-in-Ok c = subst (Reads c.read_escapes.result) (sym (is_text c.args.printed c.args.text.now c.in-Ok.text.now c.in-Ok.ensures.cases.0 c.in-Ok.ensures.cases.1)) c.read_escapes.ensures

pub returns-in-Err : goal.returns-in-Err
returns-in-Err c = no_text c.args.printed c.args.text.now c.in-Err.ensures.cases.0
