use Rattle.command_laws.proofs.IndentRuns.{steady_indent}
use Rattle.command_laws.proofs.indents.indent_is_steady.Goals as goal

pub returns : goal.returns
returns c = steady_indent
