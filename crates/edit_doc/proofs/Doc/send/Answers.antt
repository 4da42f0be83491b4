use Rattle.std.proofs.Common.{◌∙◌, refl, ap, sym, arith}
use Rattle.edit_model.specs.LiveRange.PointsEdit as range
use Rattle.edit_model.specs.Action.{acted, sent}
use Rattle.edit_model.specs.Confined.{may_send}
use Rattle.edit_model.proofs.Fitting.{places-send, fits-send}
use Rattle.edit_model.proofs.Points.{Places}
use Rattle.edit_doc.specs.Whole.{Whole}
use Rattle.edit_doc.proofs.Inner.{seen}
use Rattle.edit_doc.proofs.PointSteps.{mapped_then, mapped_ok, mapped_is}
use Rattle.edit_doc.proofs.Settling.{points_now}
use Rattle.edit_doc.proofs.Doc.send.Goals as goal

pub watch-watch-requires : goal.watch-watch-requires
watch-watch-requires c = (points_now c.self.inside c.valid.ensures c.self.invariant).selection

pub split-requires : goal.split-requires
split-requires c =
    let may = ap (λ (w : Whole). may_send w.state c.args.node.label c.args.at c.args.tail.label) c.self.view_is ∙ (sym c.may_send.ensures ∙ c.if-may_send.true) in
    let capped = c.valid.ensures.capped in
    let low = c.valid.ensures.small in
    fits-send (seen c.self.inside).state c.args.node.label c.args.at c.args.tail.label c.self.invariant.valid (omega (arith, capped, low)) may

pub unset_if_range_changed-requires : goal.unset_if_range_changed-requires
unset_if_range_changed-requires c =
    let may = ap (λ (w : Whole). may_send w.state c.args.node.label c.args.at c.args.tail.label) c.self.view_is ∙ (sym c.may_send.ensures ∙ c.if-may_send.true) in
    rw c.split.ensures (mapped_then c.self.inside c.valid.ensures c.self.invariant (range.Split c.args.node.label c.args.at c.args.tail.label c.args.node.label 0) (places-send (seen c.self.inside).state c.args.node.label c.args.at c.args.tail.label c.self.invariant.valid may)).selection

goes : (c : goal.After-unset_if_range_changed) → Places (range.Split c.args.node.label c.args.at c.args.tail.label c.args.node.label 0) (seen c.self.inside).state.trees (seen c.self.inside).state.trees
goes c = places-send (seen c.self.inside).state c.args.node.label c.args.at c.args.tail.label c.self.invariant.valid (ap (λ (w : Whole). may_send w.state c.args.node.label c.args.at c.args.tail.label) c.self.view_is ∙ (sym c.may_send.ensures ∙ c.if-may_send.true))

pub invariant_of-self : goal.invariant_of-self
invariant_of-self c = mapped_ok c.self.inside c.valid.ensures c.self.invariant (range.Split c.args.node.label c.args.at c.args.tail.label c.args.node.label 0) (goes c) c.split.new.self c.split.ensures c.watch-watch.result c.unset_if_range_changed.new.self c.watch-watch.ensures c.unset_if_range_changed.ensures

pub returns-then-may_send : goal.returns-then-may_send
unfolding acted sent
returns-then-may_send c =
    let t = sym c.may_send.ensures ∙ c.if-may_send.true in
    rw t (mapped_is c.self.inside c.valid.ensures c.self.invariant (range.Split c.args.node.label c.args.at c.args.tail.label c.args.node.label 0) (goes c) c.split.new.self c.split.ensures c.watch-watch.result c.unset_if_range_changed.new.self c.watch-watch.ensures c.unset_if_range_changed.ensures _ c.self.view_is)

pub returns-else-may_send : goal.returns-else-may_send
unfolding acted sent
returns-else-may_send c = let t = sym c.may_send.ensures ∙ c.if-may_send.false in rw t refl
