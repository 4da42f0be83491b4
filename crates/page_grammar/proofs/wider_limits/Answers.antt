use Rattle.page_grammar.proofs.WiderReading.{wider}
use Rattle.page_grammar.proofs.wider_limits.Goals as goal

pub returns : goal.returns
returns _ = wider
