use Rattle.command_laws.proofs.TogglingRuns.{steady_toggle_style}
use Rattle.command_laws.proofs.inline.toggle_style_is_steady.Goals as goal

pub returns : goal.returns
returns c = λ command. steady_toggle_style command
