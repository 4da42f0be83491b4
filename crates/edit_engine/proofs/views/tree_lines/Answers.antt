use Rattle.edit_engine.proofs.Seeing.{same_first, lines_same}
use Rattle.edit_engine.proofs.views.tree_lines.Goals as goal

pub returns : goal.returns
returns c =
    let s = same_first c.arena-arena.result.now c.valid-2.ensures c.args.doc.now.state.trees c.args.doc.now.state.next c.valid.ensures.valid.forest c.arena-arena.ensures.document in
    rw (← (lines_same _ _ s)) c.write_tree.ensures
