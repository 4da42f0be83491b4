use Rattle.caret_laws.proofs.ShownLines.{shown_lines}
use Rattle.caret_laws.proofs.paragraphs.lines_keep.Goals as goal

pub returns : goal.returns
returns c = λ s h p is hosted inside room caret none filled shown.
    shown_lines s h (record { valid = is; hosted = hosted; inside = inside }) p room caret none filled shown
