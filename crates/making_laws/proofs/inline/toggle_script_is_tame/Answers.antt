use Rattle.making_laws.proofs.TogglingRuns.{tame_toggle_script}
use Rattle.making_laws.proofs.inline.toggle_script_is_tame.Goals as goal

pub returns : goal.returns
returns c = λ x. tame_toggle_script x
