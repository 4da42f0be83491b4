-- What making an element owes.
use Rattle.std.proofs.Common.{refl, sym, ap, subst, ◌∙◌, Err}
use Rattle.edit_model.specs.DomModel.declared.Content.TheVariants.{Element}
use Rattle.edit_model.proofs.Giving.{gives_element, gives_full_element}
use Rattle.edit_model.specs.Run.{make_element, final}
use Rattle.edit_doc.specs.Sound.{IsSoundDoc}
use Rattle.edit_doc.specs.Whole.{Whole}
use Rattle.edit_doc.specs.Live.{live}
use Rattle.edit_doc.proofs.NewNodes.{Given, counted_made, room_made, node_made, none_made, element_made}
use Rattle.edit_doc.proofs.Doc.make_owned_element.Goals as goal

pub invariant_of-self : goal.invariant_of-self
invariant_of-self c = room_made c.self.inside c.args.self.now c.self.view_is c.valid.ensures c.requires.open c.self.invariant (record c.self.inside.command { detached = c.reserve.new.self }) refl refl c.reserve.ensures.items

pub invariant_of-self-in_err-reserve-2 : goal.invariant_of-self-in_err-reserve-2
invariant_of-self-in_err-reserve-2 c = room_made c.self.inside c.args.self.now c.self.view_is c.valid.ensures c.requires.open c.self.invariant (record c.self.inside.command { detached = c.reserve.new.self; named = c.reserve-2.new.self }) refl c.reserve-2.ensures.items c.reserve.ensures.items

pub invariant_of-self-inside : goal.invariant_of-self-inside
invariant_of-self-inside c =
    let n = c.self.inside.tree.nodes in
    record { counted = counted_made n.arena c.make_element.new.self (Element c.args.name c.args.attributes) n.counts c.valid.ensures n.counted c.make_element.result c.make_element.ensures.made c.make_element.ensures.err }

given : (c : goal.After-note_made) → Given c.self.inside c.args.self.now (Element c.args.name c.args.attributes) c.in-Ok.node c.make_element.new.self c.note_made.new.self
given c =
    node_made c.self.inside c.args.self.now c.self.view_is c.valid.ensures c.requires.open c.self.invariant (Element c.args.name c.args.attributes) (element_made c.args.name c.args.attributes c.valid-2.ensures)
    c.make_element.new.self c.in-Ok.node c.in-Ok.ensures.made (record c.self.inside.command { detached = c.reserve.new.self; named = c.reserve-2.new.self }) c.note_made.new.self refl c.reserve-2.ensures.items c.reserve.ensures.items c.note_made.ensures

pub invariant_of-self-in-Ok : goal.invariant_of-self-in-Ok
invariant_of-self-in-Ok c = (given c).invariant

pub invariant_of-self-in-Err : goal.invariant_of-self-in-Err
invariant_of-self-in-Err c =
    let i = c.self.inside in
    subst (λ a. IsSoundDoc (record (live i.tree) { arena = a }) (record i.command { detached = c.reserve.new.self; named = c.reserve-2.new.self }) i.history) (sym c.in-Err.ensures.err)
    (room_made i c.args.self.now c.self.view_is c.valid.ensures c.requires.open c.self.invariant (record i.command { detached = c.reserve.new.self; named = c.reserve-2.new.self }) refl c.reserve-2.ensures.items c.reserve.ensures.items)

pub returns-in-Ok-clause-gives : goal.returns-in-Ok-clause-gives
returns-in-Ok-clause-gives c =
    let m = c.in-Ok.ensures.made in
    gives_element c.args.name c.args.attributes c.args.self.now.state _ c.in-Ok.node (m.label ∙ ap (λ (w : Whole). w.state.next) c.self.view_is)
    c.valid-2.ensures (given c).state

pub returns-in-Ok-clause-held : goal.returns-in-Ok-clause-held
returns-in-Ok-clause-held c = (given c).held

pub returns-in-Ok-clause-keeps : goal.returns-in-Ok-clause-keeps
returns-in-Ok-clause-keeps c = (given c).keeps

pub returns-in-Err-clause-gives : goal.returns-in-Err-clause-gives
returns-in-Err-clause-gives c =
    let s = c.args.self.now.state in
    none_made c.self.inside c.args.self.now c.self.view_is c.valid.ensures c.requires.open c.self.invariant (final (make_element c.args.name c.args.attributes) s) c.in-Err.fault c.fault_of.result
    c.fault_of.ensures.full c.fault_of.ensures.memory (λ e. c.make_element.ensures.full.1 (c.in-Err.is ∙ ap Err e)) (gives_full_element c.args.name c.args.attributes s s)
