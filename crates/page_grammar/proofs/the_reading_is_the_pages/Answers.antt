use Rattle.page_grammar.proofs.Telling.{reading_is, only_reading}
use Rattle.page_grammar.proofs.the_reading_is_the_pages.Goals as goal

pub returns : goal.returns
returns _ = record { is = reading_is; only = only_reading }
