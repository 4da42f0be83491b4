use Rattle.step_text.proofs.Replays.{change_led, make_led, entry_led}
use Rattle.step_text.proofs.laws.lines_make_changes.Goals as goal

pub returns : goal.returns
returns c = record { change = change_led; make = make_led; entry = entry_led }
