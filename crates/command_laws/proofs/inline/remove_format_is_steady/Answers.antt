use Rattle.command_laws.proofs.FormatRuns.{steady_remove_format}
use Rattle.command_laws.proofs.inline.remove_format_is_steady.Goals as goal

pub returns : goal.returns
returns c = steady_remove_format
