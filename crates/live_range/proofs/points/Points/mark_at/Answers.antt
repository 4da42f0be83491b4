use Rattle.std.proofs.Common.{Some, sym, ◌∙◌, ap}
use Rattle.std.specs.List.{slice_get}
use Rattle.live_range.proofs.Shown.{name_met, mark_shown}
use Rattle.live_range.proofs.points.Points.mark_at.Goals as goal

pub at-requires : goal.at-requires
at-requires c =
    name_met c.self.inside.names c.self.inside.places c.args.place c.in_ok-mark.mark (sym c.mark_of.ensures ∙ c.in_ok-mark.was) c.self.invariant.over

pub returns : goal.returns
returns c =
    ap (λ n. Some (n, c.in_ok-mark.mark.pair)) c.at.ensures
    ∙ mark_shown c.self.inside.names c.self.inside.places c.args.place c.in_ok-mark.mark (sym c.mark_of.ensures ∙ c.in_ok-mark.was)
    ∙ ap (λ s. slice_get s.marks c.args.place) c.self.view_is
