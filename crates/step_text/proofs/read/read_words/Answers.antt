use Rattle.std.proofs.Common.{true}
use Rattle.script_read.proofs.Values.{spelled_scalars, text_sound}
use Rattle.step_text.proofs.read.read_words.Goals as goal

pub returns-in-Ok-clause-sound : goal.returns-in-Ok-clause-sound
returns-in-Ok-clause-sound c =
    spelled_scalars true c.within.result.now c.in-Ok.words (text_sound true c.within.result.now c.in-Ok.words c.in-Ok.ensures)
