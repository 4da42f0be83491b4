use Rattle.std.proofs.Common.{◌≡◌, Option, Some, IfSome, sym, subst, ◌∙◌}
use Rattle.edit_model.specs.NodeArena.declared.NodeRef.{NodeRef}
use Rattle.edit_doc.specs.Whole.{Whole}
use Rattle.edit_doc.specs.Held.{Holds, IfHeld}
use Rattle.edit_doc.proofs.Confining.{same_label, other_label}
use Rattle.edit_doc.proofs.Placing.{place_is, and_first, and_none}
use Rattle.edit_doc.proofs.Doc.is_place.Goals as goal

before_held : (v : Whole) (o : Option NodeRef) (b : NodeRef) → o ≡ Some b → IfHeld v o → Holds v b
before_held v o b e h = subst (λ p. IfSome p (λ r. Holds v r)) e h

pub returns-then-its-parent : goal.returns-then-its-parent
returns-then-its-parent c =
    let up = sym c.in-Some-parent.ensures.is in
    and_first _ _ (same_label c.in-Some-parent.its.label c.args.parent.label c.if-its-parent.true) ∙ sym (place_is c.args.self.now.state.trees c.args.parent.label c.args.node.label c.args.before c.in-Some.before _ c.in-Some.is up)

pub returns-else-its-parent : goal.returns-else-its-parent
returns-else-its-parent c =
    let up = sym c.in-Some-parent.ensures.is in
    and_none _ _ (other_label c.in-Some-parent.its.label c.args.parent.label c.if-its-parent.false) ∙ sym (place_is c.args.self.now.state.trees c.args.parent.label c.args.node.label c.args.before c.in-Some.before _ c.in-Some.is up)

pub returns-in-None-parent : goal.returns-in-None-parent
returns-in-None-parent c =
    let up = sym c.in-None-parent.ensures.is in
    sym (place_is c.args.self.now.state.trees c.args.parent.label c.args.node.label c.args.before c.in-Some.before _ c.in-Some.is up)
