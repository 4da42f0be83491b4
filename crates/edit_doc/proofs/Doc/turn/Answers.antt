-- What taking an entry back, or forth again, owes.
use Rattle.std.proofs.Common.{sym, ap, ◌∙◌, length, arith}
use Rattle.std.specs.Option.{option_copied}
use Rattle.edit_model.specs.LiveRange.Names.{shown}
use Rattle.edit_doc.specs.History.{whole_along}
use Rattle.edit_doc.proofs.Turnings.{fits, side, edits, turn_done, nil, same, Turned}
use Rattle.edit_doc.proofs.Inner.{closed_of}
use Rattle.edit_doc.proofs.Doc.turn.Goals as goal

pub returns-in_default-clause-answer : goal.returns-in_default-clause-answer
returns-in_default-clause-answer g c =
    let none = ap length (nil c.self.inside _ c.self.view_is c.valid-2.ensures c.slotted.ensures c.valid.ensures (closed_of c.self.inside _ c.self.view_is c.requires.closed) c.self.invariant c.args.way (ap option_copied (sym c.in_default.is) ∙ c.first_span.ensures)) in
    (λ t. absurd (let t' = t in cc), λ h. absurd (omega (arith, none, h)))

pub returns-in_default-clause-doc : goal.returns-in_default-clause-doc
returns-in_default-clause-doc g c = same c.self.inside _ c.self.view_is c.valid-2.ensures c.slotted.ensures c.valid.ensures (closed_of c.self.inside _ c.self.view_is c.requires.closed) c.self.invariant c.args.way (nil c.self.inside _ c.self.view_is c.valid-2.ensures c.slotted.ensures c.valid.ensures (closed_of c.self.inside _ c.self.view_is c.requires.closed) c.self.invariant c.args.way (ap option_copied (sym c.in_default.is) ∙ c.first_span.ensures))

pub returns-in_default-clause-count : goal.returns-in_default-clause-count
returns-in_default-clause-count g c = rw (nil c.self.inside _ c.self.view_is c.valid-2.ensures c.slotted.ensures c.valid.ensures (closed_of c.self.inside _ c.self.view_is c.requires.closed) c.self.invariant c.args.way (ap option_copied (sym c.in_default.is) ∙ c.first_span.ensures)) (omega arith)

pub set_places-requires : goal.set_places-requires
set_places-requires g c = rw c.places.ensures (side c.self.inside _ c.self.view_is c.valid-2.ensures c.slotted.ensures c.valid.ensures (closed_of c.self.inside _ c.self.view_is c.requires.closed) c.self.invariant c.args.way _ (ap option_copied (sym c.in-Some.is) ∙ c.first_span.ensures)).over

pub turn-requires-clause-fit : goal.turn-requires-clause-fit
turn-requires-clause-fit g c = fits c.self.inside _ c.self.view_is c.valid-2.ensures c.slotted.ensures c.valid.ensures (closed_of c.self.inside _ c.self.view_is c.requires.closed) c.self.invariant c.args.way

pub turn-requires-clause-counted : goal.turn-requires-clause-counted
turn-requires-clause-counted g c =
    let led = side c.self.inside _ c.self.view_is c.valid-2.ensures c.slotted.ensures c.valid.ensures (closed_of c.self.inside _ c.self.view_is c.requires.closed) c.self.invariant c.args.way _ (ap option_copied (sym c.in-Some.is) ∙ c.first_span.ensures) in
    rw c.counts-counts.ensures (record { nodes = led.nodes_are; chars = led.chars_are; depth = led.no_deeper })

done : (g : _) (c : goal.After-unset g) → Turned c.self.inside _ c.self.view_is c.valid-2.ensures c.slotted.ensures c.valid.ensures (closed_of c.self.inside _ c.self.view_is c.requires.closed) c.self.invariant
    c.turn.new.self.arena c.set_places.new.self c.turn.new.history (whole_along c.args.way c.args.self.now)
done g c =
    turn_done c.self.inside _ c.self.view_is c.valid-2.ensures c.slotted.ensures c.valid.ensures (closed_of c.self.inside _ c.self.view_is c.requires.closed) c.self.invariant c.args.way
    _ _ _ _ (ap option_copied (sym c.in-Some.is) ∙ c.first_span.ensures) c.valid-3.ensures c.turn.ensures.arena c.turn.ensures.history (c.set_places.ensures ∙ ap (shown c.self.inside.tree.points.names) c.places.ensures)

pub invariant_of-self : goal.invariant_of-self
invariant_of-self g c = rw c.unset.ensures (done g c).invariant

pub returns-clause-doc : goal.returns-clause-doc
returns-clause-doc g c = rw c.unset.ensures (done g c).value

pub returns-clause-count : goal.returns-clause-count
returns-clause-count g c =
    let k = c.turn.ensures.count in
    let e = edits c.self.inside _ c.self.view_is c.valid-2.ensures c.slotted.ensures c.valid.ensures (closed_of c.self.inside _ c.self.view_is c.requires.closed) c.self.invariant c.args.way in
    omega (arith, k, e)
