use Rattle.std.proofs.Common.{◌≡◌, ◌∙◌, false, refl, ap, sym, arith}
use Rattle.edit_model.specs.LiveRange.PointsEdit as range
use Rattle.edit_model.specs.LiveRange.PointsEdit.{has_label}
use Rattle.edit_model.specs.LiveRange.LivePoints.{labels_of}
use Rattle.edit_model.specs.Action.{acted, grown}
use Rattle.edit_model.specs.Confined.{may_grow}
use Rattle.edit_model.proofs.Fitting.{places-grow, fits-grow}
use Rattle.edit_model.proofs.Points.{Places}
use Rattle.edit_doc.specs.Whole.{Whole, with_state}
use Rattle.edit_doc.proofs.Growing.{still_grown}
use Rattle.edit_doc.proofs.Inner.{seen}
use Rattle.edit_doc.proofs.PointSteps.{mapped_then, mapped_ok, mapped_is}
use Rattle.edit_doc.proofs.Settling.{points_now}
use Rattle.edit_doc.proofs.Doc.grow.Goals as goal

pub watch-watch-requires : goal.watch-watch-requires
watch-watch-requires c = (points_now c.self.inside c.valid.ensures c.self.invariant).selection

pub grown-requires : goal.grown-requires
grown-requires c =
    let may = ap (λ (w : Whole). may_grow w.state c.args.at) c.self.view_is ∙ (sym c.may_grow.ensures ∙ c.if-may_grow.true) in
    let capped = c.valid.ensures.capped in
    let low = c.valid.ensures.small in
    fits-grow (seen c.self.inside).state c.args.at c.self.invariant.valid (omega (arith, capped, low)) may

pub unset_if_range_changed-requires : goal.unset_if_range_changed-requires
unset_if_range_changed-requires c =
    let may = ap (λ (w : Whole). may_grow w.state c.args.at) c.self.view_is ∙ (sym c.may_grow.ensures ∙ c.if-may_grow.true) in
    rw c.grown.ensures (mapped_then c.self.inside c.valid.ensures c.self.invariant (range.Grown c.args.at) (places-grow (seen c.self.inside).state c.args.at c.self.invariant.valid may)).selection

goes : (c : goal.After-unset_if_range_changed) → Places (range.Grown c.args.at) (seen c.self.inside).state.trees (seen c.self.inside).state.trees
goes c = places-grow (seen c.self.inside).state c.args.at c.self.invariant.valid (ap (λ (w : Whole). may_grow w.state c.args.at) c.self.view_is ∙ (sym c.may_grow.ensures ∙ c.if-may_grow.true))

pub invariant_of-self : goal.invariant_of-self
invariant_of-self c = mapped_ok c.self.inside c.valid.ensures c.self.invariant (range.Grown c.args.at) (goes c) c.grown.new.self c.grown.ensures c.watch-watch.result c.unset_if_range_changed.new.self c.watch-watch.ensures c.unset_if_range_changed.ensures

pub returns-then-may_grow : goal.returns-then-may_grow
unfolding acted grown
returns-then-may_grow c =
    let t = sym c.may_grow.ensures ∙ c.if-may_grow.true in
    rw t (mapped_is c.self.inside c.valid.ensures c.self.invariant (range.Grown c.args.at) (goes c) c.grown.new.self c.grown.ensures c.watch-watch.result c.unset_if_range_changed.new.self c.watch-watch.ensures c.unset_if_range_changed.ensures _ c.self.view_is)

pub returns-else-may_grow : goal.returns-else-may_grow
unfolding acted grown
returns-else-may_grow c = let t = sym c.may_grow.ensures ∙ c.if-may_grow.false in rw t refl

pub returns-then-not-stands_at : goal.returns-then-not-stands_at
returns-then-not-stands_at c =
    let off : has_label (labels_of c.args.self.now.state.points) c.args.at.label ≡ false =
    ap (λ (w : Whole). has_label (labels_of w.state.points) c.args.at.label) (sym c.self.view_is) ∙ (sym c.stands_at.ensures ∙ c.if-not-stands_at.true) in
    sym (ap (with_state c.args.self.now) (still_grown c.args.self.now.state c.args.at off))
