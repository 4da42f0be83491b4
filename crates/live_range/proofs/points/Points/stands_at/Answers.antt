use Rattle.std.proofs.Common.{sym, ap, ◌∙◌}
use Rattle.live_range.specs.PointsEdit.{has_label}
use Rattle.live_range.specs.LivePoints.{labels_of}
use Rattle.live_range.proofs.Shown.{labels_shown}
use Rattle.live_range.proofs.points.Points.stands_at.Goals as goal

pub returns : goal.returns
returns c =
    let l = c.args.label in
    c.stands_in.ensures ∙ ap (λ ls. has_label ls l) (sym (labels_shown c.self.inside.names c.self.inside.places))
    ∙ ap (λ s. has_label (labels_of s) l) c.self.view_is
