use Rattle.std.proofs.Common.{sym, arith}
use Rattle.step_text.proofs.Levels.{room_within}
use Rattle.step_text.proofs.room.has_room_under.Goals as goal

pub returns-clause-room : goal.returns-clause-room
returns-clause-room c =
    let a = c.args in
    sym (room_within a.arena.now.trees a.node.label a.parent.label
    (omega (arith, c.if-above-gt-DEEPEST.false, c.if-most-above.false, c.from-above.ensures, c.depth.ensures, c.most_levels-most.ensures)))
