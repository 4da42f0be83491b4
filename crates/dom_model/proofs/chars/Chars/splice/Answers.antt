use Rattle.std.proofs.Common.{◌≡◌, ◌≤◌, length, sym, ap, ◌∙◌, arith}
use Rattle.std.specs.Prelude.{vec_capacity}
use Rattle.dom_model.specs.Room.{room_of, spliced}
use Rattle.dom_model.proofs.Rooms.{fits}
use Rattle.dom_model.proofs.Splicing.{in_steps, long_enough}
use Rattle.dom_model.proofs.chars.Chars.splice.Goals as goal

pub put_in-requires-clause-room : goal.put_in-requires-clause-room
put_in-requires-clause-room c =
    let xs = c.self.inside.items.items in
    let put = c.args.put.now in
    let shared = c.min-shared.result in
    let within = c.requires.within in
    let same = ap length c.self.view_is in
    let long =
    long_enough xs put c.args.at c.args.count shared (omega (arith, within, same)) (grind (arith, c.min-shared.ensures))
    (grind (arith, c.min-shared.ensures)) c.overwrite.new.items.items c.take_out.new.items.items
    c.overwrite.ensures.items c.take_out.ensures.items in
    let room : room_of (length (spliced xs c.args.at c.args.count put)) ≡ room_of (length xs) =
    ap (λ l. room_of (length (spliced l c.args.at c.args.count put))) c.self.view_is
    ∙ (c.requires.room ∙ ap (λ l. room_of (length l)) (sym c.self.view_is)) in
    let enough = fits (length (spliced xs c.args.at c.args.count put)) in
    let there : room_of (length xs) ≤ vec_capacity c.self.inside.items = c.self.invariant in
    omega (arith, long, room, enough, there, c.overwrite.ensures.capacity, c.take_out.ensures.capacity)

pub returns : goal.returns
returns c =
    let xs = c.self.inside.items.items in
    let put = c.args.put.now in
    let within = c.requires.within in
    let same = ap length c.self.view_is in
    in_steps xs put c.args.at c.args.count c.min-shared.result (omega (arith, within, same))
    (grind (arith, c.min-shared.ensures)) (grind (arith, c.min-shared.ensures))
    c.overwrite.new.items.items c.take_out.new.items.items c.overwrite.ensures.items c.take_out.ensures.items
    c.put_in.new.items.items c.put_in.ensures.items
    ∙ ap (λ l. spliced l c.args.at c.args.count put) c.self.view_is
