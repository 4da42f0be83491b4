use Rattle.std.proofs.Common.{◌≡◌, ◌^◌, ◌<◌}
use Rattle.dom_model.specs.Room.{room_from}
use Rattle.dom_model.proofs.chars.room.Given as goal

abbrev pub invariant-loop-left : goal.invariant-loop-left
invariant-loop-left l =
    (room_from l.left l.room l.fn.len ≡ room_from 100 6 l.fn.len) × (l.fn.len < 2 ^ 32)

abbrev pub decreases-loop-left : goal.decreases-loop-left
decreases-loop-left l = l.left
