use Rattle.command_laws.proofs.TogglingRuns.{steady_toggle_script}
use Rattle.command_laws.proofs.inline.toggle_script_is_steady.Goals as goal

pub returns : goal.returns
returns c = λ command. steady_toggle_script command
