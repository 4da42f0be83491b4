use Rattle.independence_laws.proofs.Outcomes.{caps_refuse}
use Rattle.independence_laws.proofs.editors.caps_only_refuse.Goals as goal

pub returns : goal.returns
returns c = caps_refuse
