use Rattle.command_laws.proofs.TogglingRuns.{steady_apply_value}
use Rattle.command_laws.proofs.inline.apply_value_is_steady.Goals as goal

pub returns : goal.returns
returns c = λ command v. steady_apply_value command v
