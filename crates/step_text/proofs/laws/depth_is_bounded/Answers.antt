use Rattle.step_text.proofs.Replays.{bounded}
use Rattle.step_text.proofs.laws.depth_is_bounded.Goals as goal

pub returns : goal.returns
returns c = bounded
