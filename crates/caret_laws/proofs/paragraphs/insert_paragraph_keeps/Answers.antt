use Rattle.caret_laws.proofs.KeptParagraphs.{kept_keeps}
use Rattle.caret_laws.proofs.paragraphs.insert_paragraph_keeps.Goals as goal

pub returns : goal.returns
returns c = λ s h p is hosted inside room caret none spares.
    kept_keeps s h (record { valid = is; hosted = hosted; inside = inside }) p room caret none spares
