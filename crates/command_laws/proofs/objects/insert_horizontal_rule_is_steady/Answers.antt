use Rattle.command_laws.proofs.ObjectRuns.{steady_insert_horizontal_rule}
use Rattle.command_laws.proofs.objects.insert_horizontal_rule_is_steady.Goals as goal

pub returns : goal.returns
returns c = steady_insert_horizontal_rule
