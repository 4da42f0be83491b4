use Rattle.std.proofs.Common.{refl, sym}
use Rattle.live_range.specs.declared.places.Places.{Places}
use Rattle.live_range.proofs.RowPoints.{other_than_selection}
use Rattle.live_range.proofs.points.Points.set_selection.Goals as goal

pub invariant_of-self : goal.invariant_of-self
invariant_of-self c =
    let p : Places = c.self.inside.places in
    let q : Places = record p { selection = c.replace-was.new.dest } in
    let over = c.self.invariant.over in
    record {
      over = record { few = over.few; met = over.met; distinct = over.distinct };
      listed = c.list_pair.ensures.listed p c.self.invariant.listed (sym c.replace-was.ensures.value) (λ k h. other_than_selection p q refl k h);
    }
