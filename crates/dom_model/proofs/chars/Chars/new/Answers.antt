use Rattle.std.proofs.Common.{length, arith, ap, ◌∙◌}
use Rattle.dom_model.specs.Room.{room_of}
use Rattle.dom_model.proofs.Rooms.{room_none}
use Rattle.dom_model.proofs.chars.Chars.new.Goals as goal

pub invariant_of-result : goal.invariant_of-result
invariant_of-result c =
    let none = ap (λ l. room_of (length l)) c.new.ensures.items ∙ room_none in
    omega (arith, none)
