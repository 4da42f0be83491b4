use Rattle.edit_engine.proofs.GoneLabels.{stay_gone}
use Rattle.edit_engine.proofs.laws.gone_labels_stay.Goals as goal

pub returns : goal.returns
returns c = stay_gone
