use Rattle.command_laws.proofs.ObjectRuns.{steady_insert_line_break}
use Rattle.command_laws.proofs.objects.insert_line_break_is_steady.Goals as goal

pub returns : goal.returns
returns c = steady_insert_line_break
