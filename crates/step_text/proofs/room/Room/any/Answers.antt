use Rattle.std.proofs.Common.{arith}
use Rattle.step_text.proofs.Levels.{any_levels}
use Rattle.step_text.proofs.room.Room.any.Goals as goal

pub returns : goal.returns
returns c = let low = any_levels c.args.arena.now c.valid.ensures in omega (arith, low)
