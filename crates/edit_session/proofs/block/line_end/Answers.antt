use Rattle.std.proofs.Common.{arith, length}
use Rattle.std.proofs.lemmas.Grind.{common_steps}
use Rattle.edit_session.proofs.BlockLemmas.{lines-first-at}
use Rattle.edit_session.proofs.block.line_end.Goals as goal

pub returns-in-Some-clause-line : goal.returns-in-Some-clause-line
returns-in-Some-clause-line c = lines-first-at c.args.text.now c.in-Some.at (grind (arith, common_steps))

pub returns-in-None-clause-line : goal.returns-in-None-clause-line
returns-in-None-clause-line c = lines-first-at c.args.text.now (length c.args.text.now) (grind (arith, common_steps))
