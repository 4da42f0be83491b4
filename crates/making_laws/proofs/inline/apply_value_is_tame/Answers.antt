use Rattle.making_laws.proofs.TogglingRuns.{tame_apply_value}
use Rattle.making_laws.proofs.inline.apply_value_is_tame.Goals as goal

pub returns : goal.returns
returns c = λ x y. tame_apply_value x y
