use Rattle.making_laws.proofs.TypingRuns.{tame_insert_paragraph}
use Rattle.making_laws.proofs.insertion.insert_paragraph_is_tame.Goals as goal

pub returns : goal.returns
returns c = tame_insert_paragraph
