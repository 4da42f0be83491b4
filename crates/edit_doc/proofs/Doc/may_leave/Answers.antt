use Rattle.std.proofs.Common.{sym, ap, ◌∙◌}
use Rattle.std.specs.Prelude.{not, ◌||◌}
use Rattle.edit_model.specs.Confined.{is_own}
use Rattle.edit_model.specs.DomModel.Contents.{is_break}
use Rattle.edit_model.specs.Kept.{has_no_kept_leaves}
use Rattle.edit_doc.specs.Whole.{Whole}
use Rattle.edit_doc.proofs.Asking.{leave_so, or_right}
use Rattle.edit_doc.proofs.SeenNodes.{tree_seen}
use Rattle.edit_doc.proofs.Doc.may_leave.Goals as goal
use Rattle.edit_doc.proofs.Doc.may_leave.Goals.{then-is_open+then-is_own, then-is_open+else-is_own, else-is_open}

pub returns-else-not-self : goal.returns-else-not-self
returns-else-not-self c = elim c.if-is_open.branch [
  | then-is_open+then-is_own w ↦ leave_so _ _ c.args.self.now.state.keeping _ _ (sym c.is_open.ensures ∙ w.if-is_open.true) (ap (λ b. b || is_break c.args.self.now.state.trees c.args.node.label) (sym w.is_own.ensures ∙ w.if-is_own.true))
      (ap (λ (w : Whole). not w.state.keeping) (sym c.self.view_is) ∙ ap not c.if-not-self.false) (c.has_no_kept_leaves.ensures ∙ sym (ap has_no_kept_leaves (tree_seen c.nodes.ensures c.args.node c.requires.node_held)))
  | then-is_open+else-is_own w ↦ leave_so _ _ c.args.self.now.state.keeping _ _ (sym c.is_open.ensures ∙ w.if-is_open.true) (or_right (is_own c.args.self.now.state c.args.node.label) _ (sym w.is_break.ensures ∙ (sym w.value-is ∙ c.if-is_break.true)))
      (ap (λ (w : Whole). not w.state.keeping) (sym c.self.view_is) ∙ ap not c.if-not-self.false) (c.has_no_kept_leaves.ensures ∙ sym (ap has_no_kept_leaves (tree_seen c.nodes.ensures c.args.node c.requires.node_held)))
  | else-is_open w ↦ absurd (cc)
]
