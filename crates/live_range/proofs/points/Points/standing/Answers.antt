use Rattle.std.proofs.Common.{sym, ◌∙◌, ap, nat_eq, []}
use Rattle.indexmap.specs.IndexSet.{insert_all}
use Rattle.live_range.specs.LivePoints.{standing}
use Rattle.live_range.proofs.Shown.{labels_shown}
use Rattle.live_range.proofs.points.Points.standing.Goals as goal

pub returns : goal.returns
returns c =
    c.standing_labels.ensures ∙ ap (insert_all nat_eq []) (sym (labels_shown c.self.inside.names c.self.inside.places)) ∙ ap standing c.self.view_is
