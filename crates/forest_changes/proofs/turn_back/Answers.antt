use Rattle.forest_changes.proofs.Twice.{turns, back_turns, forth_turns}
use Rattle.forest_changes.proofs.turn_back.Goals as goal

pub returns : goal.returns
returns c = record { change = turns; back = back_turns; forth = forth_turns }
