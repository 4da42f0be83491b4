use Rattle.std.proofs.Common.{position, sym, ◌∙◌, ap}
use Rattle.std.specs.Str.{bytes_eq}
use Rattle.live_range.proofs.NamedMarks.{place_known, place_unknown}
use Rattle.live_range.proofs.points.Points.place_of.Goals as goal

pub returns-in-Some : goal.returns-in-Some
returns-in-Some c =
    c.find_mark.ensures
    ∙ place_known c.args.name.now c.self.inside.names c.in-Some.known c.self.inside.places c.valid.ensures c.self.invariant.over (sym c.position.ensures ∙ c.in-Some.is)
    ∙ ap (λ s. position (λ m. bytes_eq c.args.name.now m.0) s.marks) c.self.view_is

pub returns-in-None : goal.returns-in-None
returns-in-None c =
    place_unknown c.args.name.now c.self.inside.names c.self.inside.places c.self.invariant.over (sym c.position.ensures ∙ c.in-None.is)
    ∙ ap (λ s. position (λ m. bytes_eq c.args.name.now m.0) s.marks) c.self.view_is
