use Rattle.edit_engine.proofs.Seeing.{same_first, points_same, points_inside}
use Rattle.page_write.specs.PointLines.{AreIn}
use Rattle.edit_engine.proofs.views.points_lines.Goals as goal

pub write_points-requires : goal.write_points-requires
write_points-requires c =
    let d = c.args.doc.now in
    let inside : AreIn c.arena-arena.result.now.trees d.state.points = points_inside c.arena-arena.result.now.trees d.state.trees c.arena-arena.ensures.document d.state.points c.valid.ensures.valid.placed in
    rw c.points.ensures inside

pub returns : goal.returns
returns c =
    let d = c.args.doc.now in
    let s = same_first c.arena-arena.result.now c.valid-2.ensures d.state.trees d.state.next c.valid.ensures.valid.forest c.arena-arena.ensures.document in
    rw (← (points_same _ _ s d.state.points), ← c.points.ensures) c.write_points.ensures
