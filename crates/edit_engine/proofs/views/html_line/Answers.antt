use Rattle.std.proofs.Common.{arith}
use Rattle.edit_engine.proofs.Seeing.{same_first, html_same}
use Rattle.edit_engine.proofs.views.html_line.Goals as goal

pub returns : goal.returns
returns c =
    let s = same_first c.arena-arena.result.now c.valid-2.ensures c.args.doc.now.state.trees c.args.doc.now.state.next c.valid.ensures.valid.forest c.arena-arena.ensures.document in
    let e = html_same _ _ s in
    rw (← e) (grind (arith, c.in_ok-text.ensures, c.in_ok-push.ensures.items))
