use Rattle.caret_laws.proofs.LineBreaks.{line_breaks_keep}
use Rattle.caret_laws.proofs.line_breaks.line_breaks_keep.Goals as goal

pub returns : goal.returns
returns c = λ s p is caret hosted. line_breaks_keep s p is caret hosted
