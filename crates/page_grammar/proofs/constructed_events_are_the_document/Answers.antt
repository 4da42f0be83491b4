use Rattle.page_grammar.proofs.TreeConstructionLemmas.{constructed}
use Rattle.page_grammar.proofs.constructed_events_are_the_document.Goals as goal

pub returns : goal.returns
returns _ = constructed
