use Rattle.std.proofs.Common.{arith}
use Rattle.step_text.proofs.Levels.{levels_by_roots}
use Rattle.step_text.proofs.room.count_levels.Goals as goal

pub returns : goal.returns
returns c =
    let law = c.valid.ensures in
    levels_by_roots c.args.arena.now.trees c.loop-label.most law.distinct
    (λ l here root. c.loop-label.invariant l (let low = law.below l here in omega (arith, low, c.next_label-label-end.ensures, c.loop-label-test.false)) here root)
