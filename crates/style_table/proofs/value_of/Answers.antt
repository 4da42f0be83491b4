-- The first row's value is that of the table.
use Rattle.std.proofs.Common.{arith}
use Rattle.std.proofs.lemmas.Grind.{common_steps}
use Rattle.style_table.proofs.FirstRows.{first_row}
use Rattle.style_table.proofs.value_of.Goals as goal

pub returns-then-has_name : goal.returns-then-has_name
returns-then-has_name c = rw (first_row c.args.rows.now c.args.name.now) (grind (arith, common_steps))

pub returns : goal.returns
returns c = rw (first_row c.args.rows.now c.args.name.now) (grind (arith, common_steps))
