use Rattle.caret_laws.proofs.PutRules.{rule_added}
use Rattle.caret_laws.proofs.rules.insert_horizontal_rule_adds.Goals as goal

pub returns : goal.returns
returns c = λ s h p is hosted inside room caret held wide spares.
    (let k = rule_added s h (record { valid = is; hosted = hosted; inside = inside }) p room caret held wide spares in
    (k.label, k.adds, k.named))
