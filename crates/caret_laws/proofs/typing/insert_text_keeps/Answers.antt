use Rattle.caret_laws.proofs.GainedTexts.{text_gained}
use Rattle.caret_laws.proofs.typing.insert_text_keeps.Goals as goal

pub returns : goal.returns
returns x = λ s h p value is room small caret fine spares. text_gained s h p value is room small caret fine spares
