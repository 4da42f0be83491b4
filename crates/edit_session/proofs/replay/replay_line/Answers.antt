use Rattle.std.proofs.Common.{arith}
use Rattle.edit_session.proofs.ReplayLines.{text_within}
use Rattle.edit_session.proofs.replay.replay_line.Goals as goal

pub apply-requires : goal.apply-requires
apply-requires c =
    let within = text_within c.in_ok-step.step c.args.line.now c.in_ok-step.ensures.step.1 in
    omega (arith, within, c.requires.short)
