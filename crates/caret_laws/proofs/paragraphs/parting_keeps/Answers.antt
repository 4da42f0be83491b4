use Rattle.caret_laws.proofs.PartedLines.{own_keeps}
use Rattle.caret_laws.proofs.paragraphs.parting_keeps.Goals as goal

pub returns : goal.returns
returns c = λ s h p is hosted inside room caret none line.
    own_keeps s h (record { valid = is; hosted = hosted; inside = inside }) p room caret none line
