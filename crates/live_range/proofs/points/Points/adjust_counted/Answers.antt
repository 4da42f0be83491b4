use Rattle.std.specs.List.{count_by}
use Rattle.std.proofs.Common.{sym, ◌+◌, ◌∙◌, ap, subst}
use Rattle.live_range.specs.PointsEdit.{adjusted_pair, has_label, named_nodes}
use Rattle.live_range.specs.LivePoints.{Fits, mapped, points_at}
use Rattle.live_range.specs.Adjustments.{edit_of}
use Rattle.live_range.proofs.Shown.{labels_shown, fit_shown, mapped_shown, over_stays}
use Rattle.live_range.proofs.points.Points.adjust_counted.Goals as goal

pub places-requires-clause-fits : goal.places-requires-clause-fits
places-requires-clause-fits g c =
    fit_shown c.self.inside.names (edit_of c.args.edit.now) c.self.inside.places (subst (Fits (edit_of c.args.edit.now)) (sym c.self.view_is) c.requires)

pub invariant_of-self : goal.invariant_of-self
invariant_of-self g c = record {
  over = over_stays c.self.inside.names (adjusted_pair (edit_of c.args.edit.now)) c.self.inside.places c.places.new.places c.places.ensures.count c.places.ensures.marks c.self.invariant.over;
  listed = c.places.ensures.listed;
}

pub returns-clause-adjusted : goal.returns-clause-adjusted
returns-clause-adjusted g c =
    mapped_shown c.self.inside.names (edit_of c.args.edit.now) c.self.inside.places c.places.new.places c.places.ensures.selection c.places.ensures.scratch c.places.ensures.marks
    ∙ ap (mapped (edit_of c.args.edit.now)) c.self.view_is

pub returns-clause-steps : goal.returns-clause-steps
returns-clause-steps g c =
    let nodes = named_nodes (edit_of c.args.edit.now) in
    c.places.ensures.steps
    ∙ ap (λ ls. c.args.steps.now + count_by (has_label nodes) ls) (sym (labels_shown c.self.inside.names c.self.inside.places))
    ∙ ap (λ s. c.args.steps.now + points_at nodes s) c.self.view_is
