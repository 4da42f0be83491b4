use Rattle.std.proofs.Common.{◌≡◌, ◌+◌, refl, [], ◌∷◌, ◌++◌, position, Some, sym, ◌∙◌, ap, subst, arith}
use Rattle.std.specs.Str.{bytes_eq}
use Rattle.indexmap.specs.IndexSet.{insert_key}
use Rattle.live_range.specs.LivePoints.{LivePoints, has_mark}
use Rattle.live_range.specs.Names.{shown, IsOver}
use Rattle.live_range.proofs.RowLists.{pair_past}
use Rattle.live_range.proofs.RowPoints.{other_than_last}
use Rattle.live_range.proofs.NamedMarks.{push_shown, push_over}
use Rattle.live_range.proofs.points.Points.add_mark.Goals as goal

pub invariant_of-self-2 : goal.invariant_of-self-2
invariant_of-self-2 c =
    let found = subst (λ ns. position (bytes_eq c.args.name.now) ns ≡ Some c.in_ok-name.name) c.in_ok-name.ensures.names c.in_ok-name.ensures.met in
    record {
      over =
          subst (λ ns. IsOver ns c.push_mark.new.places) (sym c.in_ok-name.ensures.names)
          (push_over c.args.name.now c.self.inside.names c.self.inside.places c.push_mark.new.places c.in_ok-name.name c.args.pair c.self.invariant.over found
          c.push_mark.ensures.marks c.push_mark.ensures.others (ap (has_mark c.args.name.now) c.self.view_is ∙ c.requires) (omega arith));
      listed =
          c.list_pair.ensures.listed c.self.inside.places c.self.invariant.listed (pair_past c.self.inside.places (c.self.inside.places.count + 2) (omega arith))
          (λ k h. other_than_last c.self.inside.places c.push_mark.new.places (c.self.inside.places.count + 2) _ (sym c.mark_count.ensures.marks ∙ c.mark_count.ensures.count) refl
          c.push_mark.ensures.marks c.push_mark.ensures.others k h);
    }

pub returns-clause-added : goal.returns-clause-added
returns-clause-added c =
    let found = subst (λ ns. position (bytes_eq c.args.name.now) ns ≡ Some c.in_ok-name.name) c.in_ok-name.ensures.names c.in_ok-name.ensures.met in
    ap (λ ns. shown ns c.push_mark.new.places) c.in_ok-name.ensures.names
    ∙ push_shown c.args.name.now c.self.inside.names c.self.inside.places c.push_mark.new.places c.in_ok-name.name c.args.pair c.self.invariant.over found
    c.push_mark.ensures.marks c.push_mark.ensures.others
    ∙ ap (λ (s : LivePoints). let t : LivePoints = record s { marks = s.marks ++ (c.args.name.now, c.args.pair) ∷ []; names = insert_key bytes_eq s.names c.args.name.now } in t) c.self.view_is
