use Rattle.std.proofs.Common.{sym}
use Rattle.edit_model.specs.DomModel.Places.{index_of}
use Rattle.edit_parts.proofs.Points.{inserted_same}
use Rattle.edit_parts.proofs.following.adjust_inserted.Goals as goal

pub returns-else-stands_at : goal.returns-else-stands_at
returns-else-stands_at c = inserted_same c.args.points.now c.args.parent.label (index_of c.args.arena.now.trees c.args.node.label) (sym c.if-stands_at.ensures)
