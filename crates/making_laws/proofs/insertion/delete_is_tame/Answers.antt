use Rattle.making_laws.proofs.DeleteRuns.{tame_delete}
use Rattle.making_laws.proofs.insertion.delete_is_tame.Goals as goal

pub returns : goal.returns
returns c = tame_delete
