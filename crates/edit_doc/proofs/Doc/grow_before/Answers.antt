use Rattle.std.proofs.Common.{◌≡◌, ℕ, IfSome, Some, false, sym, ap, subst, ◌∙◌}
use Rattle.edit_model.specs.DomModel.Forest.{parent_of}
use Rattle.edit_model.specs.DomModel.Places.{index_of}
use Rattle.edit_model.specs.LiveRange.declared.places.Point.{Point}
use Rattle.edit_model.specs.LiveRange.PointsEdit.{has_label}
use Rattle.edit_model.specs.LiveRange.LivePoints.{labels_of}
use Rattle.edit_model.specs.Action.{Grow, acted}
use Rattle.edit_model.specs.Gives.{label_of}
use Rattle.edit_doc.specs.Whole.{Whole, with_state}
use Rattle.edit_doc.proofs.Chosen.{keeps_grown}
use Rattle.edit_doc.proofs.Growing.{still_grown}
use Rattle.edit_doc.proofs.Doc.grow_before.Goals as goal

pub returns-then-stands_at-clause-keeps : goal.returns-then-stands_at-clause-keeps
returns-then-stands_at-clause-keeps c = keeps_grown c.args.self.now c.grow.new.self _ c.grow.ensures

pub returns-else-stands_at-clause-grown : goal.returns-else-stands_at-clause-grown
returns-else-stands_at-clause-grown c =
    let known : parent_of c.args.self.now.state.trees c.args.node.label ≡ Some c.in-Some.parent.label = sym c.parent.ensures.is ∙ ap label_of c.in-Some.is in
    let off : has_label (labels_of c.args.self.now.state.points) c.in-Some.parent.label ≡ false =
    ap (λ (w : Whole). has_label (labels_of w.state.points) c.in-Some.parent.label) (sym c.self.view_is) ∙ (sym c.stands_at.ensures ∙ c.if-stands_at.false) in
    let at : ℕ → Point = (λ p. record { label = p; offset = index_of c.args.self.now.state.trees c.args.node.label }) in
    subst (λ o. IfSome o (λ p. c.args.self.now ≡ with_state c.args.self.now (acted (Grow (at p)) c.args.self.now.state))) (sym known)
    (sym (ap (with_state c.args.self.now) (still_grown c.args.self.now.state (at c.in-Some.parent.label) off)))
