use Rattle.std.proofs.Common.{arith}
use Rattle.edit_session.proofs.session.replay.Goals as goal

pub replay_page-requires : goal.replay_page-requires
replay_page-requires g c = omega (arith, c.in-Whole.ensures.within, c.requires)
