use Rattle.page_grammar.proofs.OnlyFault.{only_fault}
use Rattle.page_grammar.proofs.no_other_fault.Goals as goal

pub returns : goal.returns
returns _ = only_fault
