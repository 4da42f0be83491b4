use Rattle.making_laws.proofs.ListToggleRuns.{tame_toggle_lists}
use Rattle.making_laws.proofs.lists.toggle_lists_is_tame.Goals as goal

pub returns : goal.returns
returns c = λ x. tame_toggle_lists x
