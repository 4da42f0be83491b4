use Rattle.making_laws.proofs.IndentRuns.{tame_indent}
use Rattle.making_laws.proofs.lists.indent_is_tame.Goals as goal

pub returns : goal.returns
returns c = tame_indent
