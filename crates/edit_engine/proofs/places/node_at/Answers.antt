use Rattle.edit_engine.proofs.Finding.{found_at}
use Rattle.edit_engine.proofs.Seeing.{same_first}
use Rattle.edit_engine.proofs.places.node_at.Goals as goal

pub returns : goal.returns
returns c =
    let d = c.args.doc.now in
    let s = same_first c.arena-arena.result.now c.valid-2.ensures d.state.trees d.state.next c.valid.ensures.valid.forest c.arena-arena.ensures.document in
    let f = found_at d c.arena-arena.result.now d.state.next s c.valid.ensures.valid.forest c.arena-arena.ensures.held c.args.path.now c.resolve.result (rw (← c.as_slice.ensures) c.resolve.ensures) in
    record { found = f.found; inner = f.inner }
