use Rattle.std.proofs.Common.{◌∙◌}
use Rattle.live_range.proofs.Shown.{mapped_alike, removal_fits}
use Rattle.live_range.proofs.points.Points.removed.Goals as goal

pub adjust-requires : goal.adjust-requires
adjust-requires c = removal_fits c.args.parent c.args.index c.args.gone.now c.args.self.now c.ranges.index.fits

pub returns : goal.returns
returns c = λ tree h. c.adjust.ensures ∙ mapped_alike c.args.gone.now tree c.args.parent c.args.index c.args.self.now h
