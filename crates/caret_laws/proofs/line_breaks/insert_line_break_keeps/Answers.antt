use Rattle.caret_laws.proofs.WholeLineBreaks.{whole_keeps}
use Rattle.caret_laws.proofs.line_breaks.insert_line_break_keeps.Goals as goal

pub returns : goal.returns
returns c = λ s p is room caret hosted. whole_keeps s p is room caret hosted
