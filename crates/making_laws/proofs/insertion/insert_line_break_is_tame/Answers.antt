use Rattle.making_laws.proofs.ObjectRuns.{tame_insert_line_break}
use Rattle.making_laws.proofs.insertion.insert_line_break_is_tame.Goals as goal

pub returns : goal.returns
returns c = tame_insert_line_break
