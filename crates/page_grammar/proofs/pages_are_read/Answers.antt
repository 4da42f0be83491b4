use Rattle.page_grammar.proofs.Complete.{page_read}
use Rattle.page_grammar.proofs.pages_are_read.Goals as goal

pub returns : goal.returns
returns k = λ d c s f h. let x = page_read d c s f h in (x.there, x.reads, x.ends, x.tells)
