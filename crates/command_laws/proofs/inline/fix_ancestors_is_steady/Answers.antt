use Rattle.command_laws.proofs.AncestorRuns.{steady_fix_ancestors}
use Rattle.command_laws.proofs.inline.fix_ancestors_is_steady.Goals as goal

pub returns : goal.returns
returns c = λ n. steady_fix_ancestors n
