use Rattle.independence_laws.proofs.CommandRuns.{ignores_action}
use Rattle.independence_laws.proofs.runs.commands_ignore_marks.Goals as goal

pub returns : goal.returns
returns c = ignores_action
