use Rattle.edit_parts.proofs.Points.{removed_same}
use Rattle.edit_parts.proofs.following.Removal.adjust.Goals as goal

pub returns-in_default : goal.returns-in_default
returns-in_default c = λ f n p is. removed_same c.args.points.now c.args.self.now f n p c.in_default.is is
