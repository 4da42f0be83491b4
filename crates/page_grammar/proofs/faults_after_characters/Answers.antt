use Rattle.page_grammar.proofs.Characters.{fault_after}
use Rattle.page_grammar.proofs.faults_after_characters.Goals as goal

pub returns : goal.returns
returns _ = fault_after
