use Rattle.page_grammar.proofs.Faults.{fault_is}
use Rattle.page_grammar.proofs.the_fault_is_the_pages.Goals as goal

pub returns : goal.returns
returns _ = fault_is
