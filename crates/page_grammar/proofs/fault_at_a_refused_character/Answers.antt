use Rattle.page_grammar.proofs.Characters.{refused_character}
use Rattle.page_grammar.proofs.fault_at_a_refused_character.Goals as goal

pub returns : goal.returns
returns _ = refused_character
