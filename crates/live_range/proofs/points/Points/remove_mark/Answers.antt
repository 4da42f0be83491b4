use Rattle.std.proofs.Common.{◌∙◌, ap}
use Rattle.std.specs.List.{remove}
use Rattle.live_range.specs.LivePoints.{LivePoints}
use Rattle.live_range.proofs.NamedMarks.{removal_shown, removal_over}
use Rattle.live_range.proofs.Shown.{place_in, place_below}
use Rattle.live_range.proofs.points.Points.remove_mark.Goals as goal

pub remove_mark-requires-clause-there : goal.remove_mark-requires-clause-there
remove_mark-requires-clause-there c = place_below c.self.inside.names c.self.inside.places c.args.self.now c.self.view_is c.args.place c.requires

pub invariant_of-self : goal.invariant_of-self
invariant_of-self c = record {
  over = removal_over c.self.inside.names c.self.inside.places c.remove_mark.new.places c.args.place c.remove_mark.ensures.marks c.remove_mark.ensures.others (place_in c.self.inside.names c.self.inside.places c.args.self.now c.self.view_is c.args.place c.requires) c.self.invariant.over;
  listed = c.list_all.ensures.listed;
}

pub returns : goal.returns
returns c =
    removal_shown c.self.inside.names c.self.inside.places c.remove_mark.new.places c.args.place c.remove_mark.ensures.marks c.remove_mark.ensures.others
    ∙ ap (λ (s : LivePoints). let t : LivePoints = record s { marks = remove s.marks c.args.place } in t) c.self.view_is
