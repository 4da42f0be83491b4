use Rattle.std.proofs.Common.{◌+◌, ◌∙◌, ap, sym, refl}
use Rattle.live_range.specs.LivePoints.{LivePoints, with_value_at}
use Rattle.live_range.proofs.NamedMarks.{pair_shown, pair_over}
use Rattle.live_range.proofs.RowPoints.{other_than_mark}
use Rattle.live_range.proofs.Shown.{place_below}
use Rattle.live_range.proofs.points.Points.change_mark.Goals as goal

pub set_pair-requires-clause-there : goal.set_pair-requires-clause-there
set_pair-requires-clause-there c = place_below c.self.inside.names c.self.inside.places c.args.self.now c.self.view_is c.args.place c.requires

pub invariant_of-self : goal.invariant_of-self
invariant_of-self c = record {
  over = pair_over c.self.inside.names c.self.inside.places c.set_pair.new.places c.args.place c.args.pair c.set_pair.ensures.marks c.set_pair.ensures.others c.self.invariant.over;
  listed =
      c.list_pair.ensures.listed c.self.inside.places c.self.invariant.listed (sym c.pair_of-was.ensures)
      (λ k h. other_than_mark c.self.inside.places c.set_pair.new.places c.args.place (c.args.place + 2) c.args.pair refl c.set_pair.ensures.marks c.set_pair.ensures.others k h);
}

pub returns : goal.returns
returns c =
    pair_shown c.self.inside.names c.self.inside.places c.set_pair.new.places c.args.place c.args.pair c.set_pair.ensures.marks c.set_pair.ensures.others
    ∙ ap (λ (s : LivePoints). let t : LivePoints = record s { marks = with_value_at s.marks c.args.place c.args.pair } in t) c.self.view_is
