use Rattle.caret_laws.proofs.StyledChars.{char_inserted}
use Rattle.caret_laws.proofs.typing.insert_char_adds.Goals as goal

pub returns : goal.returns
returns x = λ s h p c is hosted inside room caret held comment off spares.
    char_inserted s h (record { valid = is; hosted = hosted; inside = inside }) p c room caret held comment off spares
