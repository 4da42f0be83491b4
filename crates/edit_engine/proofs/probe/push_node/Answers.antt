use Rattle.edit_model.specs.DomModel.Forest.{IsWithin}
use Rattle.inline_value.specs.EditDoc.Held.{Holds}
use Rattle.edit_engine.proofs.Finding.{text_same, all_inside}
use Rattle.edit_engine.proofs.Seeing.{same_first}
use Rattle.edit_engine.proofs.probe.push_node.Goals as goal

pub push_path-requires : goal.push_path-requires
push_path-requires c =
    let d = c.args.doc.now in
    let r = c.in-Some.node in
    let h : Holds d r = rw c.in-Some.is at c.requires.held in
    let within : IsWithin d.state.trees 0 r.label = all_inside d.state (c.valid.ensures.resting c.requires.closed) r.label h.here in
    record { held = rw c.arena-arena.ensures.held h.slot; inner = rw c.arena-arena.ensures.document within }

pub returns-in-Some : goal.returns-in-Some
returns-in-Some c =
    let d = c.args.doc.now in
    let s = same_first c.arena-arena.result.now c.valid-in-Some.ensures d.state.trees d.state.next c.valid.ensures.valid.forest c.arena-arena.ensures.document in
    rw (c.in-Some.is, ← (text_same _ _ s c.in-Some.node.label)) record { ok = c.push_path.ensures.ok }
