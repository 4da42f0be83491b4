use Rattle.making_laws.proofs.ObjectRuns.{tame_insert_horizontal_rule}
use Rattle.making_laws.proofs.insertion.insert_horizontal_rule_is_tame.Goals as goal

pub returns : goal.returns
returns c = tame_insert_horizontal_rule
