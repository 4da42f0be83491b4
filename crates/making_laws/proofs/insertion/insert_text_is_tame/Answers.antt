use Rattle.making_laws.proofs.TypingRuns.{from_insert_text}
use Rattle.making_laws.proofs.insertion.insert_text_is_tame.Goals as goal

pub returns : goal.returns
returns c = λ value source known. from_insert_text source value known
