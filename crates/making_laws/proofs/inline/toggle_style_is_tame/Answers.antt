use Rattle.making_laws.proofs.TogglingRuns.{tame_toggle_style}
use Rattle.making_laws.proofs.inline.toggle_style_is_tame.Goals as goal

pub returns : goal.returns
returns c = λ x. tame_toggle_style x
