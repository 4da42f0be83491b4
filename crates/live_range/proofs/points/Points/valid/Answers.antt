use Rattle.std.proofs.Common.{subst}
use Rattle.live_range.specs.LivePoints.{IsValid}
use Rattle.live_range.proofs.Shown.{valid_shown}
use Rattle.live_range.proofs.points.Points.valid.Goals as goal

pub returns : goal.returns
returns c = subst IsValid c.self.view_is (valid_shown c.self.inside.names c.self.inside.places c.valid.ensures c.self.invariant.over)
