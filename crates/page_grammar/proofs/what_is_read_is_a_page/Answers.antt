use Rattle.page_grammar.proofs.Sound.{page_only}
use Rattle.page_grammar.proofs.what_is_read_is_a_page.Goals as goal

pub returns : goal.returns
returns k = λ d c s m h e. page_only d c s m h e
