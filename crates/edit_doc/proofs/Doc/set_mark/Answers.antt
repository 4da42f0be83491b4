use Rattle.std.proofs.Common.{◌≡◌, Result, Ok, Err, OnOk, OnErr, sym, ap, subst, ◌∙◌}
use Rattle.edit_model.specs.LiveRange.LivePoints.{LivePoints, with_mark}
use Rattle.edit_model.specs.Valid.{IsPlacedPair}
use Rattle.edit_doc.specs.Whole.{Whole}
use Rattle.edit_doc.specs.History.{whole_of}
use Rattle.edit_doc.specs.Sound.{IsSoundDoc}
use Rattle.edit_doc.specs.Live.{live}
use Rattle.edit_doc.proofs.Inner.{closed_of}
use Rattle.edit_doc.proofs.LongerNames.{marked_ok, marked_is}
use Rattle.edit_doc.proofs.Doc.set_mark.Goals as goal

-- what holds of the points with the mark and of those before holds of those after, whatever the answer
after_either : {A E : Type 0} (P : LivePoints → Type 0) (r : Result A E) (new marked old : LivePoints) → OnOk r (new ≡ marked) → OnErr r (new ≡ old) → P marked → P old → P new
after_either P (Ok x) new marked old ok err p q = subst P (sym ok) p
after_either P (Err e) new marked old ok err p q = subst P (sym err) q

where_set : {A E : Type 0} (f : LivePoints → Whole) (r : Result A E) (new marked : LivePoints) (to : Whole) → OnOk r (new ≡ marked) → f marked ≡ to → OnOk r (f new ≡ to)
where_set f (Ok x) new marked to ok is = ap f ok ∙ is
where_set f (Err e) new marked to ok is = tt

pub invariant_of-self : goal.invariant_of-self
invariant_of-self c =
    let d = c.self.inside in
    let ok = c.self.invariant in
    let closed = closed_of d c.args.self.now c.self.view_is c.requires.closed in
    let placed = subst (λ (w : Whole). IsPlacedPair w.state.trees c.args.pair) (sym c.self.view_is) c.requires.placed in
    after_either
    (λ points. IsSoundDoc (record (live d.tree) { points = points }) d.command d.history)
    c.set_mark.result c.set_mark.new.self (with_mark c.args.name.now c.args.pair d.tree.points) d.tree.points c.set_mark.ensures.set c.set_mark.ensures.err
    (marked_ok d ok closed c.args.name.now c.args.pair placed) ok

pub returns-clause-set : goal.returns-clause-set
returns-clause-set c =
    let d = c.self.inside in
    let closed = closed_of d c.args.self.now c.self.view_is c.requires.closed in
    where_set (λ points. whole_of (record (live d.tree) { points = points }) d.command d.history)
    c.set_mark.result c.set_mark.new.self (with_mark c.args.name.now c.args.pair d.tree.points) _ c.set_mark.ensures.set
    (marked_is d c.self.invariant closed c.args.name.now c.args.pair c.args.self.now c.self.view_is)
