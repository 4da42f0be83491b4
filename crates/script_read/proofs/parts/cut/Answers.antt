use Rattle.std.proofs.Common.{arith}
use Rattle.std.proofs.lemmas.Grind.{common_steps}
use Rattle.script_read.proofs.Cutting.{cut-some, cut-absent}
use Rattle.script_read.proofs.parts.cut.Goals as goal

pub returns-in-Some : goal.returns-in-Some
returns-in-Some c = grind (arith, common_steps, cut-some c.args.separator c.args.text.now c.in-Some.at c.in-Some.ensures.value)

pub returns-in-None : goal.returns-in-None
returns-in-None c = grind (arith, common_steps, cut-absent c.args.separator c.args.text.now c.in-None.ensures.value)
