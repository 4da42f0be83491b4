use Rattle.caret_laws.proofs.FittingRules.{fitting_spares}
use Rattle.caret_laws.proofs.rules.fitting_rules_spare.Goals as goal

pub returns : goal.returns
returns c = fitting_spares
