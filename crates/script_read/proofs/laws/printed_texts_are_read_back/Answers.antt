use Rattle.script_read.proofs.Printed.{texts_read_back, values_read_back}
use Rattle.script_read.proofs.laws.printed_texts_are_read_back.Goals as goal

pub returns-clause-texts : goal.returns-clause-texts
returns-clause-texts c = texts_read_back

pub returns-clause-values : goal.returns-clause-values
returns-clause-values c = values_read_back
