use Rattle.std.proofs.Common.{sym}
use Rattle.dom_model.proofs.Rooms.{ended, gave_up, goes_on, room_long, room_none}
use Rattle.dom_model.proofs.chars.room.Goals as goal
use Rattle.dom_model.proofs.chars.room.Goals.{then-len-eq0-via-then-len-eq0, then-len-eq0-via-else-len-eq0+then-len}

pub returns-then-len-eq0-clause-room : goal.returns-then-len-eq0-clause-room
returns-then-len-eq0-clause-room c = elim c.then-len-eq0.branch [
  | then-len-eq0-via-then-len-eq0 w ↦ sym (rw w.if-len-eq0.true room_none)
  | then-len-eq0-via-else-len-eq0+then-len w ↦ sym (room_long c.args.len w.if-len.true)
]

pub returns-then-len-room-clause-room : goal.returns-then-len-room-clause-room
returns-then-len-room-clause-room c =
    ended c.loop-left.left c.loop-left.room c.args.len c.if-len-eq0.false c.if-len.false
    c.loop-left-test.true c.if-len-room.true c.loop-left.invariant.0

pub loop-left-preserved : goal.loop-left-preserved
loop-left-preserved c = (
  goes_on c.loop-left.left c.loop-left.room c.args.len c.loop-left-test.true c.if-len-room.false
      c.loop-left.invariant.0,
  c.loop-left.invariant.1,
)

pub returns-clause-room : goal.returns-clause-room
returns-clause-room c =
    gave_up c.loop-left.left c.loop-left.room c.args.len c.if-len-eq0.false c.if-len.false
    c.loop-left-test.false c.loop-left.invariant.0
