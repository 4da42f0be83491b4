use Rattle.step_text.proofs.Replays.{one_led, many_led}
use Rattle.step_text.proofs.laws.lines_go_on.Goals as goal

pub returns : goal.returns
returns c = record { one = one_led; many = many_led }
