use Rattle.caret_laws.proofs.TypedChars.{text_inserted}
use Rattle.caret_laws.proofs.typing.insert_text_adds.Goals as goal

pub returns : goal.returns
returns c = λ s h p value is hosted inside room small empty caret held comment plain fine.
    text_inserted s h (record { valid = is; hosted = hosted; inside = inside }) p value room small empty caret held comment plain fine
